-- Accepted tailorings are accepted changes, whose changed texts are the targets.
use Rattle.std.proofs.Common.{inl, inr, ⊎_elim, ℕ, List, [], ◌∷◌, None, map, Contains, refl, ap, arith}
use Rattle.std.specs.List.{AllByRecursion}
use Rattle.std.proofs.lemmas.List.Elements.{Contains-append_right}
use Rattle.uca_weights.specs.AskedSettings.{weighting_by}
use Rattle.uca_weights.proofs.Lists.{each_weaker}
use Rattle.uca_relations.specs.declared.Relation.{Relation}
use Rattle.uca_relations.specs.Relations.{IsTarget}
use Rattle.uca_elements.specs.Rows.{IsKey, rows_of}
use Rattle.uca_tailorings.specs.KeptRows.{IsKeptRow, IsKnownRow}
use Rattle.uca_tailorings.specs.Tailorings.{Tailoring, IsCovered, IsCoveredRow, IsPresentRow, IsUnchangedRow, IsExpectedRow, IsAccepted}
use Rattle.uca_tailorings.specs.declared.conditions.Condition.TheVariants as conditions
use Rattle.uca_changes.specs.Points.{range_pair}
use Rattle.uca_changes.specs.Changes.{IsChangedText, IsAcceptedChange}
use Rattle.uca_changes.specs.declared.conditions.ChangeCondition.TheVariants.{OldIllFormed, NewIllFormed, RangeChanged, Uncovered, RowChanged, RowMissing, RowExtra, PointChanged, SettingChanged}
use Rattle.uca_changes.specs.Laws.{change_of, TailoringsAreChanges}

-- the code points of the targets
abbrev targets : List Relation → List (List ℕ)
targets relations = map (λ r. r.target.points) relations

-- each target is one of them
target_listed : (relations : List Relation) (text : List ℕ) → IsTarget relations text → Contains (targets relations) text
target_listed [] text target = absurd target
target_listed (r ∷ relations) text target =
    ⊎_elim
    (λ here. (0, omega arith, here))
    (λ later. Contains-append_right (r.target.points ∷ []) (targets relations) text (target_listed relations text later))
    target

module _ (tailoring : Tailoring) (accepted : IsAccepted tailoring) where
  -- a text that is not listed is no target
  unlisted : (text : List ℕ) → ¬ (IsChangedText (change_of tailoring) text) → ¬ (IsTarget tailoring.relations text)
  unlisted text other target = other (target_listed tailoring.relations text target)

  -- each condition in turn
  meets : IsAcceptedChange (change_of tailoring)
  meets OldIllFormed = accepted conditions.BaseIllFormed
  meets NewIllFormed = accepted conditions.TailoredIllFormed
  meets RangeChanged = λ point scalar outside. ap (λ header. range_pair header.ranges point) (accepted conditions.Header)
  meets Uncovered =
      each_weaker (IsCoveredRow tailoring)
      (λ row. ¬ (IsChangedText (change_of tailoring) row.key) → AllByRecursion (IsCovered tailoring.maps) row.elements)
      (λ row covered other. covered) tailoring.base.rows (accepted conditions.Uncovered)
  meets RowChanged =
      each_weaker (IsUnchangedRow tailoring) (IsKeptRow tailoring.maps (IsChangedText (change_of tailoring)) (rows_of tailoring.tailored.rows))
      (λ row kept other. kept (unlisted row.key other)) tailoring.base.rows (accepted conditions.RowChanged)
  meets RowMissing =
      each_weaker (IsPresentRow tailoring)
      (λ row. ¬ (IsChangedText (change_of tailoring) row.key) → IsKey (rows_of tailoring.tailored.rows) row.key)
      (λ row present other. present) tailoring.base.rows (accepted conditions.RowMissing).0
  meets RowExtra =
      each_weaker (IsExpectedRow tailoring) (IsKnownRow (IsChangedText (change_of tailoring)) (rows_of tailoring.base.rows))
      (λ row. ⊎_elim (λ key. inl key) (λ target. inr (target_listed tailoring.relations row.key target))) tailoring.tailored.rows
      (accepted conditions.RowExtra)
  meets PointChanged = λ point scalar outside. record { class = refl; core = refl; other = refl }
  meets SettingChanged = ap (λ header. weighting_by None header.setting) (accepted conditions.Header)

-- the law
pub are_changes : TailoringsAreChanges
are_changes tailoring is accepted = (record { old = is.base; new = is.tailored; maps = is.maps }, meets tailoring accepted)
