-- The canonical text of a table has less than 2^64 bytes.
use Rattle.std.proofs.Common.{◌≡◌, ℕ, ◌+◌, ◌*◌, ◌≤◌, Bool, true, false, List, [], ◌∷◌, ◌++◌, length, Option, Some, None, refl, ap, lit≤, arith, length-append}
use Rattle.std.specs.Prelude.{nat_lt, ◌&&◌}
use Rattle.std.specs.List.{flat_map, AllByRecursion}
use Rattle.std.proofs.lemmas.Bool.{false≢true}
use borrow.Author.Tests.{leb-true}
use Rattle.uca_weights.specs.declared.Element.{Element}
use Rattle.uca_weights.specs.declared.Weighting.{Weighting}
use Rattle.uca_weights.specs.declared.Weighting.TheVariants as weightings
use Rattle.uca_lines.specs.Lines.{ended}
use Rattle.uca_lines.specs.Numbers.{digits, point_width}
use Rattle.uca_lines.proofs.DigitLemmas.{length-digits}
use Rattle.uca_values.specs.declared.ImplicitRange.{ImplicitRange}
use Rattle.uca_values.specs.Content.{Entry, HeaderContent, IsEntry, IsHeader, AreRows, is_version_name}
use Rattle.uca_table.specs.CanonicalElements.{element_text}
use Rattle.uca_table.specs.Canonical.{point_text, key_point_text, key_text, version_line, setting_line, range_line, row_line}
use Rattle.uca_weights.specs.Streams.{SinkState}
use Rattle.uca_lines.specs.OutputBuffer.{BufferState}
use Rattle.uca_lines.specs.Buffered.{count_of, HasRoom, HasWrittenThrough}
use Rattle.uca_table.specs.inside.CanonicalLineTexts.{setting_text, range_lines, header_text, row_lines}
use Rattle.uca_table.proofs.CanonicalTexts.{header_text_is}

-- as many texts of n bytes at most
length-flat_map-le : {X : Type 0} (f : X → List ℕ) (n : ℕ) (P : X → Type 0) → ((x : X) → P x → length (f x) ≤ n) → (xs : List X) → AllByRecursion P xs
    → length (flat_map f xs) ≤ length xs * n
length-flat_map-le f n P each [] h = omega arith
length-flat_map-le f n P each (x ∷ xs) h = omega (arith, length-append (f x) (flat_map f xs), each x h.0, length-flat_map-le f n P each xs h.1)

length-flat_map-any : {X : Type 0} (f : X → List ℕ) (n : ℕ) → ((x : X) → length (f x) ≤ n) → (xs : List X) → length (flat_map f xs) ≤ length xs * n
length-flat_map-any f n each [] = omega arith
length-flat_map-any f n each (x ∷ xs) = omega (arith, length-append (f x) (flat_map f xs), each x, length-flat_map-any f n each xs)

width_is_small : (c : ℕ) → point_width c ≤ 6
width_is_small c = cases (nat_lt c 0x1_0000) refl (nat_lt c 0x10_0000) refl
  where
    cases : (a : Bool) → nat_lt c 0x1_0000 ≡ a → (b : Bool) → nat_lt c 0x10_0000 ≡ b → point_width c ≤ 6
    cases true p b q = rw p (lit≤ tt)
    cases false p true q = rw (p, q) (lit≤ tt)
    cases false p false q = rw (p, q) (lit≤ tt)

length-point_text : (c : ℕ) → length (point_text c) ≤ 6
unfolding point_text
length-point_text c = omega (arith, length-digits (point_width c) c, width_is_small c)

length-key_point_text : (c : ℕ) → length (key_point_text c) ≤ 7
unfolding key_point_text
length-key_point_text c = omega (arith, length-append (point_text c) (32 ∷ []), length-point_text c)

length-key_text : (key : List ℕ) → length (key_text key) ≤ length key * 7
unfolding key_text
length-key_text key = length-flat_map-any key_point_text 7 length-key_point_text key

length-element_text : (e : Element) → length (element_text e) ≤ 17
unfolding element_text
length-element_text e =
    let p = digits 4 e.primary in
    let s = digits 4 e.secondary in
    let t = digits 4 e.tertiary in
    omega (
      arith,
      length-append p (46 ∷ (s ++ 46 ∷ (t ++ 93 ∷ []))),
      length-append s (46 ∷ (t ++ 93 ∷ [])),
      length-append t (93 ∷ []),
      length-digits 4 e.primary,
      length-digits 4 e.secondary,
      length-digits 4 e.tertiary,
    )

-- a line and its LF
pub length-ended : (line : List ℕ) → length (ended line) ≡ length line + 1
length-ended line = length-append line (10 ∷ [])

pub length-row_line : (row : Entry) → IsEntry row → length (row_line row) ≤ 658
unfolding row_line
length-row_line row h = omega (
  arith,
  length-append (key_text row.key) (59 ∷ 32 ∷ flat_map element_text row.elements),
  length-key_text row.key,
  length-flat_map-any element_text 17 length-element_text row.elements,
  h.few_points,
  h.few_elements,
)

row_is_small : (row : Entry) → IsEntry row → length (ended (row_line row)) ≤ 659
row_is_small row h = omega (arith, length-ended (row_line row), length-row_line row h)

pub length-row_lines : (rows : List Entry) → AreRows rows → length (row_lines rows) ≤ 200000 * 659
unfolding row_lines
length-row_lines rows h = omega (arith, length-flat_map-le (λ row. ended (row_line row)) 659 IsEntry row_is_small rows h.entries, h.few)

pub length-range_line : (r : ImplicitRange) → length (range_line r) ≤ 37
unfolding range_line
length-range_line r =
    let end : List ℕ = 59 ∷ 32 ∷ digits 4 r.lead in
    omega (
      arith,
      length-append (point_text r.first) (46 ∷ 46 ∷ (point_text r.last ++ end)),
      length-append (point_text r.last) end,
      length-point_text r.first,
      length-point_text r.last,
      length-digits 4 r.lead,
    )

range_is_small : (r : ImplicitRange) → length (ended (range_line r)) ≤ 38
range_is_small r = omega (arith, length-ended (range_line r), length-range_line r)

length-range_lines : (ranges : List ImplicitRange) → length (range_lines ranges) ≤ length ranges * 38
unfolding range_lines
length-range_lines ranges = length-flat_map-any (λ r. ended (range_line r)) 38 range_is_small ranges

pub length-setting_line : (setting : Weighting) → length (setting_line setting) ≤ 23
unfolding setting_line
length-setting_line weightings.NonIgnorable = lit≤ tt
length-setting_line weightings.Shifted = lit≤ tt

length-setting_text : (setting : Option Weighting) → length (setting_text setting) ≤ 24
unfolding setting_text
length-setting_text None = lit≤ tt
length-setting_text (Some setting) = omega (
  arith,
  length-append (ended (setting_line setting)) [],
  length-ended
      (setting_line setting),
  length-setting_line setting,
)

second : (a b c : Bool) → (a && b && c) ≡ true → b ≡ true
second true true c h = refl
second true false c h = h
second false b c h = absurd (false≢true h)

pub length-version_line : (name : List ℕ) → is_version_name name ≡ true → length (version_line name) ≤ 41
unfolding version_line
length-version_line name h = omega (arith, leb-true (length name) 32 (second _ _ _ h))

pub length-header_text : (header : HeaderContent) → IsHeader header → length (header_text header) ≤ 10000
length-header_text header h =
    let version = ended (version_line header.version) in
    let setting = setting_text header.setting in
    let ranges = range_lines header.ranges in
    omega (
      arith,
      ap length (header_text_is header),
      length-append version (setting ++ (ranges ++ [])),
      length-append setting (ranges ++ []),
      length-append ranges [],
      length-ended (version_line header.version),
      length-version_line header.version h.named,
      length-setting_text header.setting,
      length-range_lines header.ranges,
      h.few,
    )

-- there is room for a header at the beginning
pub header_fits : (header : HeaderContent) (buffer : BufferState) → count_of buffer ≡ 0 → IsHeader header → HasRoom buffer (length (header_text header))
header_fits header buffer none h = omega (arith, none, length-header_text header h)

-- and for the rows after it
pub rows_fit : (header : HeaderContent) (rows : List Entry) (buffer held : BufferState) (out now : SinkState) → count_of buffer ≡ 0
    → HasWrittenThrough (header_text header) buffer held out now → length (header_text header) ≤ 10000 → AreRows rows → HasRoom held (length (row_lines rows))
rows_fit header rows buffer held out now none written_through short h = omega (arith, none, written_through.count, short, length-row_lines rows h)
