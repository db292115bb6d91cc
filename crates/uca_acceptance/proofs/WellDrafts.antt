-- The order of the weights of drafts: what is true of it from relation to relation, so that the numbered rows meet WF2,
-- WF3 and WF4.
use Rattle.std.proofs.Common.{◌≡◌, ◌⊎◌, ◌<◌, ◌≤◌, true, false, List}
use Rattle.std.specs.List.{AllByRecursion}
use Rattle.uca_weights.specs.declared.Level.TheVariants.{One, Two, Three}
use Rattle.uca_check.specs.WellFormed.{elements_of}
use Rattle.uca_plans.specs.declared.drafts.DraftWeight.{DraftWeight}
use Rattle.uca_plans.specs.declared.drafts.DraftWeight.TheVariants.{Base, New}
use Rattle.uca_plans.specs.declared.drafts.DraftElement.{DraftElement}
use Rattle.uca_plans.specs.ListLaws.{IsAmong, StandsBefore}
use Rattle.uca_plans.specs.Plans.{Basis, Drafting, is_among_variables}
use Rattle.uca_plans.proofs.DraftKinds.{IsZero, IsHigh}
use Rattle.uca_plans.proofs.PlanHolds.{IsListed, IsReadImplicit}
use Rattle.uca_plans.proofs.PlanLists.{list_at}

-- a draft with a primary
abbrev pub IsPrimaryDraft : DraftElement → Type 0
IsPrimaryDraft e = IsZero e.primary → ⊥

-- one with a secondary weight and no primary
abbrev pub IsSecondaryDraft : DraftElement → Type 0
IsSecondaryDraft e = IsZero e.primary × (IsZero e.secondary → ⊥)

-- one with a tertiary weight alone
abbrev pub IsTertiaryDraft : DraftElement → Type 0
IsTertiaryDraft e = IsZero e.primary × IsZero e.secondary × (IsZero e.tertiary → ⊥)

-- two base weights from 8000 up, the lesser first
abbrev pub AreHighBelow : DraftWeight → DraftWeight → Type 0
AreHighBelow (Base v) (Base w) = (0x8000 ≤ v) × (v < w)
AreHighBelow (Base v) (New _) = ⊥
AreHighBelow (New _) w = ⊥

-- before it in the list, or in the list where the other is from 8000 up, or both so
abbrev pub IsBelow : List DraftWeight → DraftWeight → DraftWeight → Type 0
IsBelow members v w = StandsBefore members v w ⊎ ((IsAmong members v × IsHigh w) ⊎ AreHighBelow v w)

-- below, or no weight
abbrev pub IsBelowOrZero : List DraftWeight → DraftWeight → DraftWeight → Type 0
IsBelowOrZero members v w = IsZero v ⊎ StandsBefore members v w

-- Weights are in good order among some elements, by the lists of the three levels. The weights of secondary elements
-- are above those of primary ones and 0020, and those of tertiary elements above those of both and 0002. A variable
-- element has a primary. One that is not variable is below all variable ones or above them all.
pub record StandWell (primary secondary tertiary : List DraftWeight) (E : DraftElement → Type 0) : Type 0 where
  pub secondaries : (e f : DraftElement) → E e → E f → IsPrimaryDraft e → IsSecondaryDraft f → IsBelowOrZero secondary e.secondary f.secondary
  pub secondary_fixed : (f : DraftElement) → E f → IsSecondaryDraft f → StandsBefore secondary (Base 0x20) f.secondary
  pub tertiaries : (e f : DraftElement) → E e → E f → IsPrimaryDraft e ⊎ IsSecondaryDraft e → IsTertiaryDraft f → IsBelowOrZero tertiary e.tertiary f.tertiary
  pub tertiary_fixed : (f : DraftElement) → E f → IsTertiaryDraft f → StandsBefore tertiary (Base 2) f.tertiary
  pub variable : (e : DraftElement) → E e → e.mark ≡ true → IsPrimaryDraft e
  pub apart : (e : DraftElement) → E e → e.mark ≡ false → IsPrimaryDraft e →
      ((v : DraftElement) → E v → v.mark ≡ true → IsBelow primary e.primary v.primary)
      ⊎ ((v : DraftElement) → E v → v.mark ≡ true → IsBelow primary v.primary e.primary)

-- Weights are in good order after some relations: among the elements that all rows are made of. These include those of
-- replaced rows, and all implicit ones that are not among the base's variable elements.
pub record HasWellWeights (basis : Basis) (a : Drafting) : Type 1 where
  pub E : DraftElement → Type 0
  pub well : StandWell (list_at One basis a) (list_at Two basis a) (list_at Three basis a) E
  pub listed : (e : DraftElement) → E e → IsListed (list_at One basis a) (list_at Two basis a) (list_at Three basis a) e
  pub outside : (e : DraftElement) → IsReadImplicit e → is_among_variables (elements_of basis.base) e.primary ≡ false → E e
  pub held : AllByRecursion (λ row. AllByRecursion E row.elements) a.rows
