-- Draft elements: how they depend on the rows.
use Rattle.std.proofs.Common.{◌≡◌, ◌≢◌, ℕ, List, [], ◌∷◌, ◌++◌, length, map, Bool, true, false, cond, Option, Some, None, unwrap_or, is_some, refl, sym}
use Rattle.std.proofs.Common.{option_map, ap, ap₂, ◌∙◌, append-nil}
use Rattle.std.specs.List.{AllByRecursion, flat_map}
use Rattle.std.proofs.lemmas.Simd.{map-map}
use Rattle.std.proofs.lemmas.List.{map-append}
use Rattle.uca_weights.specs.declared.Element.{Element}
use Rattle.uca_values.specs.declared.ImplicitRange.{ImplicitRange}
use Rattle.uca_values.specs.Content.{Properties}
use Rattle.uca_values.specs.Implicit.{implicit}
use Rattle.uca_text.specs.Texts.{NfdText, code_points, classed}
use Rattle.uca_text.specs.Occurring.{OccursInOrder}
use Rattle.uca_text.proofs.Texts.{points_of_letters, letters_occur}
use Rattle.uca_text.proofs.Occurring.{occurs_trans}
use Rattle.uca_elements.specs.Rows.{rows_of, is_key, same_key}
use Rattle.uca_elements.specs.Parts.{Part, Row, Implicit, part_elements, IsPartOf}
use Rattle.uca_elements.specs.Reading.{parts}
use Rattle.uca_elements.proofs.Parts.{parts_same, each_part, key_is_part}
use Rattle.uca_plans.specs.declared.drafts.DraftElement.{DraftElement}
use Rattle.uca_plans.specs.Drafts.{DraftRow, as_draft, has_key, draft_at, part_drafts}
use Rattle.uca_plans.specs.Readings.{valued_rows, DraftsReadAsRows, DraftsReadByWhatOccurs, KeysReadAsTheirRows}
use Rattle.uca_plans.proofs.KeyPlaces.{has_draft}

-- ---- Texts

-- a text has the code points of its NFD
pub points_of : (text : NfdText) → length text.classes ≡ length text.points → code_points (classed text) ≡ text.points
points_of text same = points_of_letters text.points text.classes same

-- what occurs in order in the letters of a text occurs in it
pub occurs_in_text : (key : List ℕ) (text : NfdText) → OccursInOrder key (code_points (classed text)) → OccursInOrder key text.points
occurs_in_text key text h = occurs_trans key (code_points (classed text)) text.points h (letters_occur text.points text.classes)

-- a text with code points has letters
pub letters_some : (text : NfdText) → length text.classes ≡ length text.points → text.points ≢ [] → classed text ≢ []
letters_some text same some none = some (sym (points_of text same) ∙ ap code_points none)

-- ---- By what occurs

-- two functions that agree at each part of a text give the same
same_at_parts : (f g : Part → List DraftElement) (P : Part → Type 0) → ((p : Part) → P p → f p ≡ g p) → (ps : List Part) → AllByRecursion P ps →
    flat_map f ps ≡ flat_map g ps
same_at_parts f g P same [] each = refl
same_at_parts f g P same (p ∷ ps) each = ap₂ (λ es fs. es ++ fs) (same p each.0) (same_at_parts f g P same ps each.1)

-- drafts that agree at the keys that occur in order in a text read it alike
pub read_by_what_occurs : DraftsReadByWhatOccurs
read_by_what_occurs ranges properties rows others text agree =
    same_at_parts (part_drafts ranges properties rows) (part_drafts ranges properties others) (IsPartOf (has_key rows) (classed text)) same
    (parts (has_key rows) (classed text)) (each_part (has_key rows) (classed text))
    ∙ ap (flat_map (part_drafts ranges properties others)) (parts_same (has_key rows) (has_key others) (classed text)
    (λ key occurs. sym (has_draft rows key) ∙ ap is_some (agree key (occurs_in_text key text occurs)) ∙ has_draft others key))
  where
    same : (p : Part) → IsPartOf (has_key rows) (classed text) p → part_drafts ranges properties rows p ≡ part_drafts ranges properties others p
    same (Row key) is = ap (λ o. unwrap_or o []) (agree key (occurs_in_text key text is.1))
    same (Implicit c) is = refl

-- ---- A text that is a key

-- it is its one part, and reads as its row
pub read_of_key : KeysReadAsTheirRows
read_of_key ranges properties rows text row same some found =
    let points : code_points (classed text) ≡ text.points = points_of text same in
    ap (flat_map (part_drafts ranges properties rows))
    (key_is_part (has_key rows) (classed text) (letters_some text same some)
    (ap (has_key rows) points ∙ sym (has_draft rows text.points) ∙ ap is_some found))
    ∙ append-nil (unwrap_or (draft_at rows (code_points (classed text))) [])
    ∙ ap (λ key. unwrap_or (draft_at rows key) []) points
    ∙ ap (λ o. unwrap_or o []) found

-- ---- Valued rows

-- the elements of a key's row are valued
pub valued_row : (value : DraftElement → Element) (rows : List DraftRow) (key : List ℕ) →
    rows_of (valued_rows value rows) key ≡ option_map (map value) (draft_at rows key)
valued_row value [] key = refl
valued_row value (row ∷ rows) key = go (same_key row.key key) (valued_row value rows key)
  where
    go : (b : Bool) → rows_of (valued_rows value rows) key ≡ option_map (map value) (draft_at rows key) →
        cond b (Some (map value row.elements)) (rows_of (valued_rows value rows) key) ≡ option_map (map value) (cond b (Some row.elements) (draft_at rows key))
    go true later = refl
    go false later = later

module _ (value : DraftElement → Element) (rows : List DraftRow) (ranges : List ImplicitRange) (properties : Properties)
    (keeps : (c : ℕ) → map (λ e. value (as_draft true e)) (implicit ranges properties c) ≡ implicit ranges properties c) where
  value_of_row : (o : Option (List DraftElement)) → unwrap_or (option_map (map value) o) [] ≡ map value (unwrap_or o [])
  value_of_row None = refl
  value_of_row (Some es) = refl

  -- the elements of a part are its draft elements, each valued
  part_valued : (p : Part) →
      part_elements (implicit ranges properties) (rows_of (valued_rows value rows)) p ≡ map value (part_drafts ranges properties rows p)
  part_valued (Row key) = ap (λ o. unwrap_or o []) (valued_row value rows key) ∙ value_of_row (draft_at rows key)
  part_valued (Implicit c) = sym (keeps c) ∙ sym (map-map value (as_draft true) (implicit ranges properties c))

  parts_valued : (ps : List Part) →
      flat_map (part_elements (implicit ranges properties) (rows_of (valued_rows value rows))) ps
      ≡ map value (flat_map (part_drafts ranges properties rows) ps)
  parts_valued [] = refl
  parts_valued (p ∷ ps) =
      ap₂ (λ es fs. es ++ fs) (part_valued p) (parts_valued ps)
      ∙ sym (map-append value (part_drafts ranges properties rows p) (flat_map (part_drafts ranges properties rows) ps))

-- the valued rows have the same keys
valued_key : (value : DraftElement → Element) (rows : List DraftRow) (key : List ℕ) → is_key (rows_of (valued_rows value rows)) key ≡ has_key rows key
valued_key value rows key = ap is_some (valued_row value rows key) ∙ go (draft_at rows key) ∙ has_draft rows key
  where
    go : (o : Option (List DraftElement)) → is_some (option_map (map value) o) ≡ is_some o
    go None = refl
    go (Some es) = refl

-- reading the rows where each element is valued gives the draft elements, each valued
pub read_as_rows : DraftsReadAsRows
read_as_rows value ranges properties rows text keeps =
    parts_valued value rows ranges properties keeps (parts (is_key (rows_of (valued_rows value rows))) (classed text))
    ∙ ap (λ ps. map value (flat_map (part_drafts ranges properties rows) ps))
    (parts_same (is_key (rows_of (valued_rows value rows))) (has_key rows) (classed text) (λ key _. valued_key value rows key))
