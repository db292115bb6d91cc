-- The text of a list of changes, part by part.
use Rattle.std.proofs.Common.{◌≡◌, ℕ, ◌+◌, ◌*◌, ◌<◌, ◌≤◌, List, [], ◌∷◌, ◌++◌, length, map, take, get_or, codes, Result, Ok, Err, refl, sym, ap, subst, ◌∙◌, arith, length-append, append_assoc, append-nil}
use Rattle.std.specs.Prelude.{OnOk}
use Rattle.std.specs.List.{flat_map, AllByRecursion}
use Rattle.std.proofs.lemmas.List.{take_all}
use Rattle.uca_weights.proofs.Lists.{each_push, taken_more}
use Rattle.std.proofs.lemmas.Grind.{flat_map-append}
use Rattle.std.proofs.lemmas.List.Folds.{flat_map-map}
use Rattle.uca_values.specs.declared.CodePointRange.{CodePointRange}
use Rattle.uca_lines.specs.Lines.{ended}
use Rattle.uca_lines.specs.OutputBuffer.{BufferState}
use Rattle.uca_lines.specs.Buffered.{count_of, HasRoom}
use Rattle.uca_lines.proofs.BufferedLemmas.{part}
use Rattle.uca_table.specs.Canonical.{point_text}
use Rattle.uca_table.proofs.CanonicalSizes.{length-ended}
use Rattle.uca_change_files.specs.Changes.{ChangeContent, OfText, OfRange, IsText, IsRange, IsChangeList}
use Rattle.uca_change_files.specs.ChangeTexts.{Means, AreScalars, header, spaced, text_line, range_line, changes_text}
use Rattle.uca_change_files.specs.Steps.{text_lines, range_lines}
use Rattle.uca_change_files.proofs.FileLaws.{short_line}

-- ---- Texts by their parts

abbrev pub point_parts : List ℕ → ℕ → List (List ℕ)
point_parts front c = front ∷ point_text c ∷ []

pub point_is : (front : List ℕ) (c : ℕ) → front ++ point_text c ≡ flat_map part (point_parts front c)
point_is front c = ap (λ l. front ++ l) (sym (append-nil (point_text c)))

abbrev pub text_parts : List ℕ → List (List ℕ)
text_parts text = codes "text" ∷ flat_map spaced text ∷ (10 ∷ []) ∷ []

pub text_is : (text : List ℕ) → ended (text_line text) ≡ flat_map part (text_parts text)
unfolding text_line
text_is text = simp (append_assoc, append-nil)

abbrev pub range_parts : CodePointRange → List (List ℕ)
range_parts r = (codes "range " ++ point_text r.first) ∷ (46 ∷ 46 ∷ point_text r.last) ∷ (10 ∷ []) ∷ []

pub range_is : (r : CodePointRange) → ended (range_line r) ≡ flat_map part (range_parts r)
unfolding range_line
range_is r = simp (append_assoc, append-nil)

abbrev pub list_parts : ChangeContent → List (List ℕ)
list_parts content = ended header ∷ text_lines content.texts ∷ range_lines content.ranges ∷ []

pub list_is : (content : ChangeContent) → changes_text content ≡ flat_map part (list_parts content)
unfolding text_lines range_lines
list_is content = ap (λ l. ended header ++ l) (
    flat_map-append ended (map text_line content.texts) (map range_line content.ranges)
    ∙ ap (λ l. l ++ flat_map ended (map range_line content.ranges)) (flat_map-map ended text_line content.texts)
    ∙ ap (λ l. flat_map (λ t. ended (text_line t)) content.texts ++ l)
    (flat_map-map ended range_line content.ranges ∙ sym (append-nil (flat_map (λ r. ended (range_line r)) content.ranges)))
    )

-- ---- There is room for the text

length-text_lines : (texts : List (List ℕ)) → AllByRecursion IsText texts → length (text_lines texts) ≤ length texts * 117
unfolding text_lines
length-text_lines [] h = omega arith
length-text_lines (t ∷ ts) h = omega (
  arith,
  length-append (ended (text_line t)) (flat_map (λ u. ended (text_line u)) ts),
  length-ended (text_line t),
  short_line (OfText t) h.0,
  length-text_lines ts h.1,
)

length-range_lines : (ranges : List CodePointRange) → AllByRecursion IsRange ranges → length (range_lines ranges) ≤ length ranges * 117
unfolding range_lines
length-range_lines [] h = omega arith
length-range_lines (r ∷ rs) h = omega (
  arith,
  length-append (ended (range_line r)) (flat_map (λ s. ended (range_line s)) rs),
  length-ended (range_line r),
  short_line (OfRange r) h.0,
  length-range_lines rs h.1,
)

pub list_fits : (content : ChangeContent) (buffer : BufferState) → count_of buffer ≡ 0 → IsChangeList content
    → HasRoom buffer (length (changes_text content))
list_fits content buffer none h =
    let texts = text_lines content.texts in
    let ranges = range_lines content.ranges in
    omega (
      arith,
      none,
      ap length (list_is content),
      length-append (ended header) (texts ++ (ranges ++ [])),
      length-append texts (ranges ++ []),
      length-append ranges [],
      length-text_lines content.texts h.texts,
      length-range_lines content.ranges h.ranges,
      h.few,
    )

-- ---- What is written

-- what is true of the members so far, and of the next one
pub each_taken : {X : Type 0} (P : X → Type 0) (xs : List X) (i : ℕ) (x : X) → AllByRecursion P (take i xs) → i < length xs → x ≡ get_or xs i x → P x
    → AllByRecursion P (take (i + 1) xs)
each_taken P xs i x before within there here = subst (AllByRecursion P) (sym (taken_more xs i x within there)) ((each_push P (take i xs) x).1 (before, here))

-- and then of all
pub all_taken : {X : Type 0} (P : X → Type 0) (xs : List X) (i : ℕ) → AllByRecursion P (take i xs) → length xs ≤ i → AllByRecursion P xs
all_taken P xs i before all = subst (AllByRecursion P) (take_all i xs all) before

-- a fact holds after each result
pub on_ok_of : {X E P : Type 0} (r : Result X E) → P → OnOk r P
on_ok_of (Ok x) p = p
on_ok_of (Err e) p = tt

-- the text of a list means it
pub means_itself : (content : ChangeContent) → IsChangeList content → AreScalars content.texts → Means (changes_text content) content
means_itself content h scalars = record { text = refl; list = h; scalars = scalars }
