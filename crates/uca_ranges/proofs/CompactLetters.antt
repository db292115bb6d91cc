-- Ranges of compact keys by the weights that level 1 begins with.
use Rattle.std.proofs.Common.{◌≡◌, ◌↔◌, ◌⊎◌, inl, inr, ℕ, suc, ◌+◌, ◌*◌, ◌-◌, ◌<◌, ◌≤◌, List, [], ◌∷◌, ◌++◌, Bool, true, false, cond, nat_lt, length, flat_map, refl, ap, sym, subst, ◌∙◌, arith, append_assoc, append-nil}
use Rattle.std.specs.Str.{encode_utf8_all}
use Rattle.std.specs.declared.cmp.Ordering.{Ordering}
use Rattle.std.specs.declared.cmp.Ordering.TheVariants.{Less}
use Rattle.uca_weights.specs.declared.Depth.{Depth}
use Rattle.uca_weights.specs.declared.Depth.TheVariants.{Weights, Identical}
use Rattle.uca_weights.specs.declared.Weighting.{Weighting}
use Rattle.uca_weights.specs.declared.Weighting.TheVariants.{NonIgnorable, Shifted}
use Rattle.uca_order.specs.Levels.{lexicographic, level_count}
use Rattle.uca_order.proofs.KeyOrder.{cmp_greater}
use Rattle.uca_books.specs.Books.{BookContent, IsBook}
use Rattle.uca_compact.specs.Forms.{Form, IsForm, step, first_cell, ends_before, AreRising, AreWeights, AreLevels, letters_form, forms_of}
use Rattle.uca_compact.specs.PlainLevels.{plain_level}
use Rattle.uca_compact.specs.CompactKeys.{offset_bytes, cell, written, run_after, level_code, end_of, later_levels, compact, compact_key}
use Rattle.uca_compact.proofs.Below.{IsBelow, below_append, below_less}
use Rattle.uca_compact.proofs.CellOrder.{below_from, cell_from, cell_order}
use Rattle.uca_compact.proofs.LevelsOrder.{end_fits}
use Rattle.uca_compact.proofs.RunOrder.{FirstWithin}
use Rattle.uca_compact.proofs.Forms.{forms_fit}
use Rattle.uca_ranges.specs.Ranges.{InRange, LettersBegin, letters_code, compact_letters_low, compact_letters_high}
use Rattle.uca_ranges.specs.Laws.{CompactKeysByLetters}
use Rattle.uca_ranges.proofs.Ranges.{both_hold, neither_holds, iff_then, range_as, range_after, below_low, above_high, from_nothing, three_ways}
use Rattle.uca_ranges.proofs.StoredRanges.{Begins, begins_after, begins_same, begins_none, first_letters, no_level}

-- ---- Cells of weights of level 1

-- the first byte of a cell, by the test on the next start
within_by : (number last : ℕ) (here later : List ℕ) (b : Bool) → number ≤ last → FirstWithin (suc number) last later → FirstWithin number last (cond b (number ∷ here) later)
within_by number last here later true few h = (number, here, omega arith, few, refl)
within_by number last here later false few h = (h.0, h.1, omega (arith, h.2), h.3, h.4)

-- it is the number of a cell
pub cell_within : (number start : ℕ) (later : List ℕ) (end w : ℕ) → FirstWithin number (number + length later) (cell number start later end w)
cell_within number start [] end w = (number, offset_bytes (end - start) (w - start), omega arith, omega arith, refl)
cell_within number start (next ∷ later) end w =
    let more = cell_within (suc number) next later end w in
    within_by number (number + suc (length later)) (offset_bytes (next - start) (w - start)) (cell (suc number) next later end w) (nat_lt w next)
    (omega arith) (more.0, more.1, more.2, omega (arith, more.3), more.4)

-- the cells of weights
abbrev pub cells : (number : ℕ) → List ℕ → List ℕ → List ℕ
cells number greater ws = flat_map (cell number 1 greater 65536) ws

-- level 1 is its cells and its end
pub letters_level : (f : Form) (end : ℕ) (ws : List ℕ) → f.common ≡ 0 → AreWeights ws
    → level_code f end 0 ws ≡ flat_map (cell (first_cell f) (suc f.common) f.greater 65536) ws ++ end ∷ []
letters_level f end [] none weights = let e : 0 * step f + end ≡ end = omega arith in ap (λ (n : ℕ). n ∷ []) e
letters_level f end (w ∷ ws) none weights =
    let here = cell (first_cell f) (suc f.common) f.greater 65536 in
    let above : f.common < w = omega (arith, weights.0.0) in
    ap (λ (o : Ordering). written f 0 w o ++ level_code f end (run_after f 0 o) ws) (cmp_greater w f.common above)
    ∙ ap (λ (xs : List ℕ). here w ++ xs) (letters_level f end ws none weights.1)
    ∙ sym (append_assoc (here w) (flat_map here ws) (end ∷ []))

-- ---- Level 1 begins with some letters

-- a cell after an end
end_below : (number e w : ℕ) (greater xs more : List ℕ) → e < number → IsBelow (e ∷ xs) (cell number 1 greater 65536 w ++ more)
end_below number e w greater xs more less =
    let found = cell_from number 1 greater 65536 w in
    below_from number e xs (cell number 1 greater 65536 w ++ more) less (found.0, found.1 ++ more, found.2, ap (λ (bytes : List ℕ). bytes ++ more) found.3)

-- a cell has no byte FF first
cell_top : (number w : ℕ) (greater more : List ℕ) → number + length greater < 255 → lexicographic (cell number 1 greater 65536 w ++ more) (255 ∷ []) ≡ Less
cell_top number w greater more few =
    let found = cell_within number 1 greater 65536 w in
    let under : found.0 < 255 = omega (arith, found.3) in
    subst (λ (bytes : List ℕ). lexicographic (bytes ++ more) (255 ∷ []) ≡ Less) (sym found.4)
    (below_less (found.0 ∷ (found.1 ++ more)) (255 ∷ []) (inl under))

-- no letters are looked up
all_found : (number e : ℕ) (greater first xs : List ℕ) → e < number → number + length greater < 255
    → InRange [] (255 ∷ []) (cells number greater first ++ e ∷ xs) ↔ Begins [] first
all_found number e greater [] xs less few =
    both_hold ((λ h. from_nothing (e ∷ xs) h), below_less (e ∷ xs) (255 ∷ []) (inl (omega arith))) ([], refl)
all_found number e greater (v ∷ vs) xs less few =
    both_hold (
      (λ h. from_nothing (cells number greater (v ∷ vs) ++ e ∷ xs) h),
      subst (λ (bytes : List ℕ). lexicographic bytes (255 ∷ []) ≡ Less) (sym (append_assoc (cell number 1 greater 65536 v) (cells number greater vs) (e ∷ xs)))
          (cell_top number v greater (cells number greater vs ++ e ∷ xs) few),
    ) (v ∷ vs, refl)

-- two first weights
cells_by : (number e w v : ℕ) (greater ws vs xs : List ℕ) → AreRising 1 greater 65536 → 0 < w → w < 65536 → 0 < v → v < 65536
    → (InRange (cells number greater ws) (cells number greater ws ++ (255 ∷ [])) (cells number greater vs ++ e ∷ xs) ↔ Begins ws vs)
    → (v < w) ⊎ ((v ≡ w) ⊎ (w < v))
    → InRange (cell number 1 greater 65536 w ++ cells number greater ws) (cell number 1 greater 65536 w ++ (cells number greater ws ++ (255 ∷ [])))
    (cell number 1 greater 65536 v ++ (cells number greater vs ++ e ∷ xs)) ↔ Begins (w ∷ ws) (v ∷ vs)
cells_by number e w v greater ws vs xs rising w0 w1 v0 v1 more (inl less) =
    let here = cell number 1 greater 65536 in
    neither_holds
    (below_low (here w ++ cells number greater ws) (here w ++ (cells number greater ws ++ (255 ∷ []))) (here v ++ (cells number greater vs ++ e ∷ xs))
    (below_append (here v) (here w) (cells number greater vs ++ e ∷ xs) (cells number greater ws) (cell_order number 1 greater 65536 v w rising (omega arith) less w1)))
    (λ h. let same : v ≡ w = begins_same v w ws vs h in omega arith)
cells_by number e w v greater ws vs xs rising w0 w1 v0 v1 more (inr (inr over)) =
    let here = cell number 1 greater 65536 in
    neither_holds
    (above_high (here w ++ cells number greater ws) (here w ++ (cells number greater ws ++ (255 ∷ []))) (here v ++ (cells number greater vs ++ e ∷ xs))
    (below_append (here w) (here v) (cells number greater ws ++ (255 ∷ [])) (cells number greater vs ++ e ∷ xs) (cell_order number 1 greater 65536 w v rising (omega arith) over v1)))
    (λ h. let same : v ≡ w = begins_same v w ws vs h in omega arith)
cells_by number e w v greater ws vs xs rising w0 w1 v0 v1 more (inr (inl same)) =
    let here = cell number 1 greater 65536 in
    subst (λ (n : ℕ). InRange (here w ++ cells number greater ws) (here w ++ (cells number greater ws ++ (255 ∷ []))) (here n ++ (cells number greater vs ++ e ∷ xs)) ↔ Begins (w ∷ ws) (n ∷ vs)) (sym same)
    (iff_then (range_after (here w) (cells number greater ws) (cells number greater ws ++ (255 ∷ [])) (cells number greater vs ++ e ∷ xs))
    (iff_then more (begins_after w ws vs)))

-- level 1 by its weights
pub cells_found : (number e : ℕ) (greater letters first xs : List ℕ) → AreRising 1 greater 65536 → e < number → number + length greater < 255
    → AreWeights letters → AreWeights first
    → InRange (cells number greater letters) (cells number greater letters ++ (255 ∷ [])) (cells number greater first ++ e ∷ xs) ↔ Begins letters first
cells_found number e greater [] first xs rising less few ls fs = all_found number e greater first xs less few
cells_found number e greater (w ∷ ws) [] xs rising less few ls fs =
    neither_holds
    (below_low (cells number greater (w ∷ ws)) (cells number greater (w ∷ ws) ++ (255 ∷ [])) (e ∷ xs) (end_below number e w greater xs (cells number greater ws) less))
    (begins_none w ws)
cells_found number e greater (w ∷ ws) (v ∷ vs) xs rising less few ls fs =
    let here = cell number 1 greater 65536 in
    iff_then (range_as (cells number greater (w ∷ ws)) (here w ++ cells number greater ws)
    (cells number greater (w ∷ ws) ++ (255 ∷ [])) (here w ++ (cells number greater ws ++ (255 ∷ [])))
    (cells number greater (v ∷ vs) ++ e ∷ xs) (here v ++ (cells number greater vs ++ e ∷ xs))
    refl (append_assoc (here w) (cells number greater ws) (255 ∷ [])) (append_assoc (here v) (cells number greater vs) (e ∷ xs)))
    (cells_by number e w v greater ws vs xs rising ls.0.0 ls.0.1 fs.0.0 fs.0.1 (cells_found number e greater ws vs xs rising less few ls.1 fs.1) (three_ways v w))

-- ---- Keys

-- a compact key begins with the cells of level 1, and its end
abbrev pub BeginsByCells : Weighting → BookContent → List ℕ → List ℕ → Type 0
BeginsByCells weighting b a key = (e : ℕ) × (xs : List ℕ) × (e < ends_before (level_count weighting - 1)) × (key ≡ letters_code weighting b a ++ e ∷ xs)

-- levels, where the first one has no common weight
pub levels_by : (f : Form) (forms : List Form) (a : List ℕ) (later : List (List ℕ)) (more : List ℕ) → f.common ≡ 0 → f.ends ≡ ends_before (length forms)
    → length later ≡ length forms → AreWeights a
    → (e : ℕ) × (xs : List ℕ) × (e < ends_before (length forms))
    × (compact plain_level (f ∷ forms) (a ∷ later) ++ more ≡ flat_map (cell (first_cell f) (suc f.common) f.greater 65536) a ++ e ∷ xs)
levels_by f forms a later more none ends same weights =
    let e = end_of plain_level (length later) (a ∷ []) later in
    let rest = later_levels plain_level forms (a ∷ []) later in
    let here = flat_map (cell (first_cell f) (suc f.common) f.greater 65536) a in
    let fits : e < f.ends = end_fits plain_level f forms (a ∷ []) later ends same in (
      e,
      rest ++ more,
      omega (arith, fits, ends),
      ap (λ (xs : List ℕ). (xs ++ rest) ++ more) (letters_level f e a none weights)
          ∙ append_assoc (here ++ e ∷ []) rest more
          ∙ append_assoc here (e ∷ []) (rest ++ more),
    )

-- what follows the levels
abbrev pub utf8_part : Depth → List ℕ → List ℕ
utf8_part Weights points = []
utf8_part Identical points = encode_utf8_all points

-- so a compact key is its levels, and what follows them
pub compact_is : (depth : Depth) (weighting : Weighting) (b : BookContent) (levels : List (List ℕ)) (points : List ℕ)
    → compact_key depth weighting b (record { levels = levels; points = points }) ≡ compact plain_level (forms_of weighting b) levels ++ utf8_part depth points
compact_is Weights weighting b levels points = sym (append-nil (compact plain_level (forms_of weighting b) levels))
compact_is Identical weighting b levels points = refl

-- the forms after the first
abbrev pub later_forms : List Form → List Form
later_forms [] = []
later_forms (f ∷ forms) = forms

-- so a key does
pub key_cells : (depth : Depth) (weighting : Weighting) (b : BookContent) (a : List ℕ) (later : List (List ℕ)) (points : List ℕ) → AreLevels (level_count weighting) (a ∷ later)
    → BeginsByCells weighting b a (compact_key depth weighting b (record { levels = a ∷ later; points = points }))
key_cells depth NonIgnorable b a later points are =
    let found = levels_by (letters_form b 2) (later_forms (forms_of NonIgnorable b)) a later (utf8_part depth points) refl refl (omega (arith, are.0)) are.1.0 in
    (found.0, found.1, found.2, compact_is depth NonIgnorable b (a ∷ later) points ∙ found.3)
key_cells depth Shifted b a later points are =
    let found = levels_by (letters_form b 3) (later_forms (forms_of Shifted b)) a later (utf8_part depth points) refl refl (omega (arith, are.0)) are.1.0 in
    (found.0, found.1, found.2, compact_is depth Shifted b (a ∷ later) points ∙ found.3)

-- the first cell of a weighting
first_number : (weighting : Weighting) (b : BookContent) → IsBook b
    → (ends_before (level_count weighting - 1) ≤ first_cell (letters_form b (level_count weighting - 1)))
    × (first_cell (letters_form b (level_count weighting - 1)) + length b.letters < 255)
first_number NonIgnorable b book = (omega arith, omega (arith, book.letters.few))
first_number Shifted b book = (omega arith, omega (arith, book.letters.few))

-- level 1 of a book has a form
pub letters_form_fits : (weighting : Weighting) (b : BookContent) → IsBook b → IsForm (letters_form b (level_count weighting - 1))
letters_form_fits NonIgnorable b book = (forms_fit NonIgnorable b book).0
letters_form_fits Shifted b book = (forms_fit Shifted b book).0

-- so its cells rise
letters_rise : (weighting : Weighting) (b : BookContent) → IsBook b → AreRising 1 b.letters 65536
letters_rise weighting b book =
    let form = letters_form_fits weighting b book in
    elim form.greater [
      | inl none ↦ absurd (omega (arith, none.0))
      | inr rising ↦ rising
    ]

-- a key with a first level
letters_law : (depth : Depth) (weighting : Weighting) (b : BookContent) (letters a : List ℕ) (later : List (List ℕ)) (points : List ℕ) → IsBook b → AreWeights letters
    → AreLevels (level_count weighting) (a ∷ later)
    → InRange (compact_letters_low weighting b letters) (compact_letters_high weighting b letters) (compact_key depth weighting b (record { levels = a ∷ later; points = points }))
    ↔ LettersBegin letters (a ∷ later)
letters_law depth weighting b letters a later points book ls are =
    let key = compact_key depth weighting b (record { levels = a ∷ later; points = points }) in
    let number = first_cell (letters_form b (level_count weighting - 1)) in
    let found = key_cells depth weighting b a later points are in
    let room = first_number weighting b book in
    let less : found.0 < number = omega (arith, found.2, room.0) in
    iff_then (range_as (compact_letters_low weighting b letters) (cells number b.letters letters) (compact_letters_high weighting b letters) (cells number b.letters letters ++ (255 ∷ []))
    key (cells number b.letters a ++ found.0 ∷ found.1) refl refl found.3)
    (iff_then (cells_found number found.0 b.letters letters a found.1 (letters_rise weighting b book) less room.1 ls are.1.0) (first_letters letters a later))

-- a key
letters_of : (depth : Depth) (weighting : Weighting) (b : BookContent) (letters : List ℕ) (levels : List (List ℕ)) (points : List ℕ) → IsBook b → AreWeights letters
    → AreLevels (level_count weighting) levels
    → InRange (compact_letters_low weighting b letters) (compact_letters_high weighting b letters) (compact_key depth weighting b (record { levels = levels; points = points }))
    ↔ LettersBegin letters levels
letters_of depth weighting b letters [] points book ls are = absurd (no_level weighting are)
letters_of depth weighting b letters (a ∷ later) points book ls are = letters_law depth weighting b letters a later points book ls are

-- the law
pub compact_by_letters : CompactKeysByLetters
compact_by_letters depth weighting b letters k book ls parts = letters_of depth weighting b letters k.levels k.points book ls parts.levels
