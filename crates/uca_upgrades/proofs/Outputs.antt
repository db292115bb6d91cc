-- The output of a run of keys, cut into its lines and with other keys in place of theirs.
use Rattle.std.proofs.Common.{◌≡◌, ℕ, ◌+◌, ◌/◌, ◌%◌, ◌≤◌, false, List, [], ◌∷◌, ◌++◌, map, chars, nat_lt, refl, subst, sym, ap, ap₂, ◌∙◌, append_assoc, arith}
use Rattle.std.specs.List.{AllByRecursion, flat_map, join_with_byte, onto_first}
use Rattle.std.proofs.lemmas.Bool.{cond_both, ne_eqb}
use Rattle.uca_weights.specs.declared.Depth.{Depth}
use Rattle.uca_weights.specs.declared.Depth.TheVariants.{Weights, Identical}
use Rattle.uca_lines.specs.Lines.{Lacks, ended, is_lf, lines_of}
use Rattle.uca_lines.specs.Numbers.{upper_digit}
use Rattle.uca_lines.proofs.LineLemmas.{Lacks-append}
use Rattle.uca_order.specs.Levels.{key_bytes}
use Rattle.uca_order.specs.Depths.{point_bytes, read_points}
use Rattle.uca_run_parts.specs.Print.{byte_digits, groups, printed_after, printed_groups, spaced_point}
use Rattle.uca_run_parts.proofs.LineCuts.{lines_of-ended}
use Rattle.uca_rekey.specs.ChangedLines.{KeyChange, LineBecomes, LinesBecome}
use Rattle.uca_order.specs.Keyings.{Keying, key_of_bytes}
use Rattle.uca_key_runs.specs.Keys.{keyed_line, printed_key}

-- ---- No line has an LF

digit_lacks : (d : ℕ) → is_lf (upper_digit d) ≡ false
digit_lacks d =
    let high : 48 ≤ upper_digit d = cond_both (nat_lt d 10) (48 + d) (55 + d) (λ x. 48 ≤ x) (λ low. omega arith) (λ high. omega arith) in
    ne_eqb (upper_digit d) 10 (λ same. omega (arith, high))

digits_lack : (key : List ℕ) → Lacks is_lf (flat_map byte_digits key)
digits_lack [] = tt
digits_lack (b ∷ key) = (digit_lacks (b / 16), (digit_lacks (b % 16), digits_lack key))

groups_lack : (key : List ℕ) → AllByRecursion (Lacks is_lf) (groups key)
groups_lack [] = tt
groups_lack (a ∷ []) = (digits_lack (a ∷ []), tt)
groups_lack (a ∷ b ∷ more) = (digits_lack (a ∷ b ∷ []), groups_lack more)

joined_lack : (parts : List (List ℕ)) → AllByRecursion (Lacks is_lf) parts → Lacks is_lf (join_with_byte 32 parts)
joined_lack [] all = tt
joined_lack (part ∷ []) all = all.0
joined_lack (part ∷ next ∷ more) all = Lacks-append is_lf part (32 ∷ join_with_byte 32 (next ∷ more)) all.0 (refl, joined_lack (next ∷ more) all.1)

points_lack : (points : List ℕ) → Lacks is_lf (flat_map spaced_point points)
points_lack [] = tt
points_lack (c ∷ points) = Lacks-append is_lf (spaced_point c) (flat_map spaced_point points) (refl, digits_lack (point_bytes c)) (points_lack points)

after_lacks : (depth : Depth) (points : List ℕ) → Lacks is_lf (printed_after depth points)
after_lacks Weights points = tt
after_lacks Identical points = (refl, (refl, (refl, (refl, (refl, points_lack points)))))

-- the line of a key alone
printed_lacks : (depth : Depth) (key points : List ℕ) → Lacks is_lf (printed_groups key ++ printed_after depth points)
unfolding printed_groups
printed_lacks depth key points =
    Lacks-append is_lf (printed_groups key) (printed_after depth points) (joined_lack (groups key) (groups_lack key)) (after_lacks depth points)

-- and the lines of an input
first_lacks : (byte : ℕ) (lines : List (List ℕ)) → is_lf byte ≡ false → AllByRecursion (Lacks is_lf) lines → AllByRecursion (Lacks is_lf) (onto_first byte lines)
first_lacks byte [] other all = ((other, tt), tt)
first_lacks byte (line ∷ lines) other all = ((other, all.0), all.1)

pub lines_lack : (input : List ℕ) → AllByRecursion (Lacks is_lf) (lines_of input)
lines_lack [] = tt
lines_lack (byte ∷ input) =
    cond_both (is_lf byte) ([] ∷ lines_of input) (onto_first byte (lines_of input)) (AllByRecursion (Lacks is_lf))
    (λ lf. (tt, lines_lack input)) (λ other. first_lacks byte (lines_of input) other (lines_lack input))

-- ---- Outputs

-- what is printed of a line is its new line, and LF
abbrev pub Prints : (List ℕ → List ℕ) → (List ℕ → List ℕ) → Type 0
Prints bytes_of body = (line : List ℕ) → bytes_of line ≡ ended (body line)

-- so what is printed of some lines are the new lines, each with LF
output_of : (bytes_of body : List ℕ → List ℕ) → Prints bytes_of body → (lines : List (List ℕ)) → flat_map bytes_of lines ≡ flat_map ended (map body lines)
output_of bytes_of body prints [] = refl
output_of bytes_of body prints (line ∷ lines) = ap₂ ◌++◌ (prints line) (output_of bytes_of body prints lines)

-- lines without LF are the lines of their text
cut_again : (body : List ℕ → List ℕ) (lines : List (List ℕ)) → AllByRecursion (λ line. Lacks is_lf (body line)) lines → lines_of (flat_map ended (map body lines)) ≡ map body lines
cut_again body [] all = refl
cut_again body (line ∷ lines) all =
    ap lines_of (append_assoc (body line) (10 ∷ []) (flat_map ended (map body lines)))
    ∙ lines_of-ended (body line) (flat_map ended (map body lines)) all.0
    ∙ ap (λ ls. body line ∷ ls) (cut_again body lines all.1)

each_becomes : (change : KeyChange) (old new : List ℕ → List ℕ) (lines : List (List ℕ)) →
    AllByRecursion (λ line. LineBecomes change (old line) (new line)) lines → LinesBecome change (map old lines) (map new lines)
each_becomes change old new [] all = tt
each_becomes change old new (line ∷ lines) all = (all.0, each_becomes change old new lines all.1)

-- where each line becomes its new line, so does the output
pub output_becomes : (change : KeyChange) (old_bytes old new_bytes new : List ℕ → List ℕ) → Prints old_bytes old → Prints new_bytes new →
    (lines : List (List ℕ)) → AllByRecursion (λ line. Lacks is_lf (old line)) lines → AllByRecursion (λ line. LineBecomes change (old line) (new line)) lines →
    (now : List (List ℕ)) × LinesBecome change (lines_of (flat_map old_bytes lines)) now × (flat_map new_bytes lines ≡ flat_map ended now)
output_becomes change old_bytes old new_bytes new old_prints new_prints lines lack each = (
  map new lines,
  subst (λ (ls : List (List ℕ)). LinesBecome change ls (map new lines))
      (sym (ap lines_of (output_of old_bytes old old_prints lines) ∙ cut_again old lines lack)) (each_becomes change old new lines each),
  output_of new_bytes new new_prints lines,
)

-- ---- Lines of output

-- the line of output of a line, without its LF: its key alone, or before it
pub printed_body : Keying → List ℕ → List ℕ
printed_body c line =
    let text = read_points c.collation c.settings.numbers (chars line) in
    printed_groups (key_bytes c.settings.weighting text.elements) ++ printed_after c.settings.depth text.points

pub keyed_body : Keying → List ℕ → List ℕ
keyed_body c line = flat_map byte_digits (key_of_bytes c line) ++ 9 ∷ line

pub printed_is : (c : Keying) → Prints (printed_key c) (printed_body c)
unfolding printed_body
printed_is c line =
    let text = read_points c.collation c.settings.numbers (chars line) in
    sym (append_assoc (printed_groups (key_bytes c.settings.weighting text.elements)) (printed_after c.settings.depth text.points) (10 ∷ []))

pub keyed_is : (c : Keying) → Prints (keyed_line c) (keyed_body c)
unfolding keyed_body
keyed_is c line = sym (append_assoc (flat_map byte_digits (key_of_bytes c line)) (9 ∷ line) (10 ∷ []))

pub printed_body_lacks : (c : Keying) (line : List ℕ) → Lacks is_lf (printed_body c line)
unfolding printed_body
printed_body_lacks c line =
    let text = read_points c.collation c.settings.numbers (chars line) in
    printed_lacks c.settings.depth (key_bytes c.settings.weighting text.elements) text.points

pub keyed_body_lacks : (c : Keying) (line : List ℕ) → Lacks is_lf line → Lacks is_lf (keyed_body c line)
unfolding keyed_body
keyed_body_lacks c line lacks = Lacks-append is_lf (flat_map byte_digits (key_of_bytes c line)) (9 ∷ line) (digits_lack (key_of_bytes c line)) (refl, lacks)
