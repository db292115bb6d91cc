-- Ranges of compact keys by level 1 alone.
use Rattle.std.proofs.Common.{◌≡◌, ℕ, suc, ◌+◌, ◌-◌, List, [], ◌∷◌, ◌++◌, length, take, flat_map, refl, ap, ◌∙◌, arith, append-nil, length-append}
use Rattle.std.proofs.lemmas.List.{take_at}
use Rattle.uca_weights.specs.declared.Weighting.{Weighting}
use Rattle.uca_weights.specs.declared.Weighting.TheVariants.{NonIgnorable, Shifted}
use Rattle.uca_order.specs.Levels.{level_count}
use Rattle.uca_books.specs.Books.{BookContent}
use Rattle.uca_compact.specs.Forms.{Form, first_cell, ends_before, AreWeights, letters_form, forms_of}
use Rattle.uca_compact.specs.PlainLevels.{plain_level}
use Rattle.uca_compact.specs.CompactKeys.{cell, level_code, later_levels, compact}
use Rattle.uca_ranges.specs.Ranges.{plain_levels, with_last, letters_code, compact_levels_low, compact_levels_high}
use Rattle.uca_ranges.proofs.CompactLetters.{later_forms, letters_level}
use Rattle.uca_ranges.proofs.FirstLevels.{plain_count, plain_end, plain_bytes}
use Rattle.uca_ranges.proofs.CompactLevels.{last_of}

-- letters and plain levels
compact_one : (f : Form) (forms : List Form) (letters : List ℕ) (count : ℕ) → f.common ≡ 0 → AreWeights letters
    → compact plain_level (f ∷ forms) ((letters ∷ []) ++ plain_levels (letters ∷ []) count)
    ≡ flat_map (cell (first_cell f) (suc f.common) f.greater 65536) letters ++ count ∷ []
compact_one f forms letters count none weights =
    let plains = plain_levels (letters ∷ []) count in
    let code = flat_map (cell (first_cell f) (suc f.common) f.greater 65536) letters in
    ap (λ (n : ℕ). level_code f n 0 letters ++ later_levels plain_level forms (letters ∷ []) plains) (plain_end (length plains) (letters ∷ []) count)
    ∙ ap (λ (xs : List ℕ). level_code f (length plains) 0 letters ++ xs) (plain_bytes forms (letters ∷ []) count)
    ∙ append-nil (level_code f (length plains) 0 letters)
    ∙ letters_level f (length plains) letters none weights
    ∙ ap (λ (n : ℕ). code ++ n ∷ []) (plain_count (letters ∷ []) count)

-- both ends are the cells of level 1 and a byte: the low end
pub one_low : (weighting : Weighting) (b : BookContent) (letters : List ℕ) → AreWeights letters
    → compact_levels_low weighting b (letters ∷ []) ≡ letters_code weighting b letters ++ 0 ∷ []
one_low NonIgnorable b letters weights =
    ap (with_last (λ end. end - 2)) (compact_one (letters_form b 2) (later_forms (forms_of NonIgnorable b)) letters 2 refl weights)
    ∙ last_of (λ end. end - 2) (letters_code NonIgnorable b letters) 2
one_low Shifted b letters weights =
    ap (with_last (λ end. end - 3)) (compact_one (letters_form b 3) (later_forms (forms_of Shifted b)) letters 3 refl weights)
    ∙ last_of (λ end. end - 3) (letters_code Shifted b letters) 3

-- the high end
pub one_high : (weighting : Weighting) (b : BookContent) (letters : List ℕ) → AreWeights letters
    → compact_levels_high weighting b (letters ∷ []) ≡ letters_code weighting b letters ++ ends_before (level_count weighting - 1) ∷ []
one_high NonIgnorable b letters weights =
    ap (with_last (λ end. end + 3)) (compact_one (letters_form b 2) (later_forms (forms_of NonIgnorable b)) letters 2 refl weights)
    ∙ last_of (λ end. end + 3) (letters_code NonIgnorable b letters) 2
one_high Shifted b letters weights =
    ap (with_last (λ end. end + 4)) (compact_one (letters_form b 3) (later_forms (forms_of Shifted b)) letters 3 refl weights)
    ∙ last_of (λ end. end + 4) (letters_code Shifted b letters) 3

-- ---- In a program

-- the form that a program makes
pub form_is : (weighting : Weighting) (b : BookContent) (ends : ℕ) (starts : List ℕ) → ends ≡ ends_before (level_count weighting - 1) → starts ≡ b.letters
    → record { common = 0; longest = 1; ends = ends; lesser = []; greater = starts } ≡ letters_form b (level_count weighting - 1)
form_is weighting b ends starts count same =
    ap (λ (n : ℕ). record { common = 0; longest = 1; ends = n; lesser = []; greater = starts }) count
    ∙ ap (λ (xs : List ℕ). record { common = 0; longest = 1; ends = ends_before (level_count weighting - 1); lesser = []; greater = xs }) same

-- a level with the end 0, without it
pub without_end : (weighting : Weighting) (b : BookContent) (f : Form) (letters out rest : List ℕ) (n : ℕ) → f ≡ letters_form b (level_count weighting - 1)
    → AreWeights letters → out ≡ level_code f 0 0 letters → n ≡ length out - 1 → rest ≡ take n out → rest ≡ letters_code weighting b letters
without_end weighting b f letters out rest n form weights written count taken =
    let code = letters_code weighting b letters in
    let whole : out ≡ code ++ 0 ∷ [] =
    written ∙ ap (λ (g : Form). level_code g 0 0 letters) form ∙ letters_level (letters_form b (level_count weighting - 1)) 0 letters refl weights in
    let long : length code ≡ n = omega (arith, count, ap length whole, length-append code (0 ∷ [])) in
    taken ∙ ap (take n) whole ∙ take_at code (0 ∷ []) n long
