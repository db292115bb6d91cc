-- The output of a run of keys is shorter than 2^63 bytes, so its bytes and those of a header have an exact count.
use Rattle.std.proofs.Common.{◌≡◌, ℕ, ◌+◌, ◌*◌, ◌^◌, ◌<◌, ◌≤◌, List, [], ◌∷◌, length, chars, Bool, true, false, Option, Some, None, if◌then◌else◌, is_none, nat_lt, nat_le, refl, arith, length-append}
use Rattle.std.specs.List.{flat_map}
use Rattle.std.specs.Str.{IsUtf8}
use Rattle.std.proofs.lemmas.Bool.{leb-false, ltb-false}
use Rattle.unicode_normalization.specs.Forms.{nfd}
use Rattle.uca_books.specs.Books.{BookContent}
use Rattle.uca_text.specs.Texts.{NfdText}
use Rattle.uca_lines.specs.Lines.{lines_of}
use Rattle.uca_order.specs.Depths.{read_points}
use Rattle.uca_order.specs.Keyings.{Keying, text_of}
use Rattle.uca_order.specs.Lengths.{HasShortRows}
use Rattle.uca_key_writer.proofs.ByValue.{with_points_short}
use Rattle.uca_run_parts.specs.declared.faults.InputKind.{InputKind}
use Rattle.uca_run_parts.specs.declared.faults.InputKind.TheVariants.{Limit, TooLong}
use Rattle.uca_run_parts.specs.Input.{cause_of, clean_from, clean_lines}
use Rattle.uca_key_runs.specs.declared.keys.KeyForm.{KeyForm}
use Rattle.uca_key_runs.specs.inside.KeyForms.{depth_as, line_as, shown_at}
use Rattle.uca_key_runs.proofs.KeyLines.{few_points, printed_is_short}
use Rattle.uca_key_runs.proofs.NormalLines.{clean_utf8, normal_line}
use Rattle.uca_key_runs.proofs.ShownKeys.{shown_is_short}

-- ---- A line without an error

no_cause : (cause : Option InputKind) → is_none cause ≡ true → cause ≡ None
no_cause None h = refl
no_cause (Some kind) h = let never : ⊥ = cc in absurd never

module _ (read_of : List ℕ → NfdText) (before : ℕ) (line : List ℕ) (none : cause_of read_of before line ≡ None) where
  -- it is one of the first 1,000,000, and within the limit of bytes
  within : (limit long : Bool) → nat_le 1000000 before ≡ limit → nat_lt 4194304 (length line) ≡ long
      → (before < 1000000) × (length line ≤ 4194304)
  within true long a b = let never : Some Limit ≡ None = rw a at none in cc
  within false true a b = let never : Some TooLong ≡ None = rw (a, b) at none in cc
  within false false a b = (leb-false 1000000 before a, ltb-false 4194304 (length line) b)

  pub clean_within : (before < 1000000) × (length line ≤ 4194304)
  clean_within = within _ _ refl refl

-- its line of output is short
line_short : (form : KeyForm) (book : Option BookContent) (c : Keying) (before : ℕ) (line : List ℕ) → HasShortRows c.collation.rows
    → cause_of (text_of c) before line ≡ None → length (line_as form book c line) ≤ 2 ^ 43
line_short form book c before line rows none =
    let depth = c.settings.depth in
    let weighting = c.settings.weighting in
    let text = read_points c.collation c.settings.numbers (chars line) in
    let utf8 : IsUtf8 line = clean_utf8 (text_of c) before line none in
    let short = (clean_within (text_of c) before line none).1 in
    let few : length (nfd (chars line)) ≤ 2 ^ 23 = few_points (nfd (chars line)) line utf8 short refl in
    let accepted = (normal_line c.settings.numbers c.collation.properties before line none).accepted in
    let key = with_points_short c.collation (depth_as form depth) weighting (text_of c line) (nfd (chars line)) rows accepted (omega (arith, few)) in
    let printed = printed_is_short form depth (shown_at book (depth_as form depth) weighting text) text.points line
    (shown_is_short book (depth_as form depth) weighting text key) (λ shows. few) short in
    omega (arith, printed)

-- ---- All lines

module _ (read_of : List ℕ → NfdText) (bytes_of : List ℕ → List ℕ)
    (short : (before : ℕ) (line : List ℕ) → cause_of read_of before line ≡ None → length (bytes_of line) ≤ 2 ^ 43) where
  -- the bytes of a line, if it has no error, and those of the lines after it
  step : (before : ℕ) (line : List ℕ) (rest : List (List ℕ)) → before ≤ 1000000
      → (before + 1 ≤ 1000000 → length (flat_map bytes_of rest) + (before + 1) * 2 ^ 43 ≤ 1000000 * 2 ^ 43)
      → (b : Bool) → is_none (cause_of read_of before line) ≡ b
      → length (flat_map bytes_of (if b then line ∷ rest else [])) + before * 2 ^ 43 ≤ 1000000 * 2 ^ 43
  step before line rest few later false same = omega (arith, few)
  step before line rest few later true same =
      let none = no_cause (cause_of read_of before line) same in
      let next : before + 1 ≤ 1000000 = omega (arith, (clean_within read_of before line none).0) in
      omega (arith, later next, short before line none, length-append (bytes_of line) (flat_map bytes_of rest))

  short_from : (before : ℕ) (lines : List (List ℕ)) → before ≤ 1000000
      → length (flat_map bytes_of (clean_from read_of before lines)) + before * 2 ^ 43 ≤ 1000000 * 2 ^ 43
  short_from before [] few = omega (arith, few)
  short_from before (line ∷ lines) few =
      step before line (clean_from read_of (before + 1) lines) few (λ next. short_from (before + 1) lines next) (is_none (cause_of read_of before line)) refl

-- the whole output is short
pub output_short : (form : KeyForm) (book : Option BookContent) (c : Keying) (bytes : List ℕ) → HasShortRows c.collation.rows
    → length (flat_map (line_as form book c) (clean_lines (text_of c) (lines_of bytes))) ≤ 2 ^ 63
output_short form book c bytes rows =
    let most = short_from (text_of c) (line_as form book c) (λ before line none. line_short form book c before line rows none) 0 (lines_of bytes) (omega arith) in
    omega (arith, most)
