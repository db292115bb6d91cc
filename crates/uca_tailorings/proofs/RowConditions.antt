-- What the conditions on rows say of the elements at a key.
use Rattle.std.proofs.Common.{◌≡◌, ℕ, List, [], ◌∷◌, Bool, true, false, Option, Some, None, is_some, ◌⊎◌, inl, inr, ⊎_elim, refl, sym, ap, subst, ◌∙◌}
use Rattle.std.specs.List.{AllByRecursion}
use Rattle.uca_weights.specs.declared.Element.{Element}
use Rattle.uca_values.specs.Content.{Entry}
use Rattle.uca_relations.specs.declared.Relation.{Relation}
use Rattle.uca_relations.specs.Relations.{IsTarget}
use Rattle.uca_elements.specs.Rows.{IsKey, same_key, rows_of}
use Rattle.uca_elements.specs.Laws.{AreRelatedRows}
use Rattle.uca_elements.proofs.RowsByKey.{at_row, same_key-true, same_key-itself}
use Rattle.uca_weights.proofs.Lists.{each_weaker}
use Rattle.uca_tailorings.specs.Images.{Maps, AreImages}
use Rattle.uca_tailorings.specs.KeptRows.{IsKeptRow, IsKnownRow}
use Rattle.uca_tailorings.specs.Tailorings.{Tailoring, IsAccepted, IsPresentRow}
use Rattle.uca_tailorings.specs.declared.conditions.Condition.TheVariants.{RowChanged, RowMissing, RowExtra}

-- lists of numbers are equal or not
same_or_not : (a b : List ℕ) (same : Bool) → same_key a b ≡ same → (a ≡ b) ⊎ ¬ (a ≡ b)
same_or_not a b true is = inl (same_key-true a b is)
same_or_not a b false is = inr (λ equal. let itself : same_key a b ≡ true = subst (λ c. same_key a c ≡ true) equal (same_key-itself a) in cc)

-- a text is a target or not
pub target_or_not : (relations : List Relation) (text : List ℕ) → IsTarget relations text ⊎ ¬ (IsTarget relations text)
target_or_not [] text = inr (λ none. none)
target_or_not (r ∷ relations) text =
    ⊎_elim
    (λ same. inl (inl same))
    (λ other. ⊎_elim
    (λ later. inl (inr later))
    (λ none. inr (λ target. ⊎_elim other none target))
    (target_or_not relations text))
    (same_or_not r.target.points text (same_key r.target.points text) refl)

-- the rows of a key that is not changed are images
pub kept_at_key : (maps : Maps) (IsChanged : List ℕ → Type 0) (old_rows new_rows : List Entry) →
    AllByRecursion (IsKeptRow maps IsChanged (rows_of new_rows)) old_rows →
    AllByRecursion (λ row. ¬ (IsChanged row.key) → IsKey (rows_of new_rows) row.key) old_rows →
    AllByRecursion (IsKnownRow IsChanged (rows_of old_rows)) new_rows → (key : List ℕ) → ¬ (IsChanged key) →
    AreRelatedRows (AreImages maps) (rows_of old_rows key) (rows_of new_rows key)
kept_at_key maps IsChanged old_rows new_rows kept present known key other = by_rows (rows_of old_rows key) (rows_of new_rows key) refl refl
  where
    -- by whether each table has a row
    by_rows : (old new : Option (List Element)) → rows_of old_rows key ≡ old → rows_of new_rows key ≡ new → AreRelatedRows (AreImages maps) old new
    by_rows None None at_old at_new = tt
    by_rows None (Some new) at_old at_new =
        ⊎_elim
        (λ is_key. let no : false ≡ true = sym (ap is_some at_old) ∙ is_key in absurd cc)
        (λ changed. absurd (other changed))
        (at_row (IsKnownRow IsChanged (rows_of old_rows)) new_rows key new known at_new)
    by_rows (Some old) None at_old at_new =
        let is_key = at_row (λ row. ¬ (IsChanged row.key) → IsKey (rows_of new_rows) row.key) old_rows key old present at_old other in
        let no : false ≡ true = sym (ap is_some at_new) ∙ is_key in
        absurd cc
    by_rows (Some old) (Some new) at_old at_new = at_row (IsKeptRow maps IsChanged (rows_of new_rows)) old_rows key old kept at_old other new at_new

-- so are those of a key that is no target
pub row_kept : (tailoring : Tailoring) → IsAccepted tailoring → (key : List ℕ) → ¬ (IsTarget tailoring.relations key) →
    AreRelatedRows (AreImages tailoring.maps) (rows_of tailoring.base.rows key) (rows_of tailoring.tailored.rows key)
row_kept tailoring accepted =
    kept_at_key tailoring.maps (IsTarget tailoring.relations) tailoring.base.rows tailoring.tailored.rows (accepted RowChanged)
    (each_weaker (IsPresentRow tailoring) (λ row. ¬ (IsTarget tailoring.relations row.key) → IsKey (rows_of tailoring.tailored.rows) row.key)
    (λ row present other. present) tailoring.base.rows (accepted RowMissing).0)
    (accepted RowExtra)
