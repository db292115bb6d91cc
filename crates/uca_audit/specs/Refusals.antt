-- The first condition that a tailoring fails, and the first position where it does.
use Rattle.std.specs.Prelude.{◌≡◌, ◌⊎◌, ℕ, suc, ◌<◌, List, ◌∷◌, ◌++◌, length}
use Rattle.std.specs.List.{AllByRecursion}
use Rattle.uca_check.specs.WellFormed.{IsFirstWithout, IsFirstFailure}
use Rattle.uca_relations.specs.declared.Relation.{Relation as RelationType}
use Rattle.uca_tailorings.specs.Tailorings.{Tailoring, IsCoveredRow, IsUnchangedRow, IsPresentRow, IsPresentTarget, IsExpectedRow, HasAnchor, IsPlaced, IsFresh, IsNearest, Meets, IsAccepted}
use Rattle.uca_tailorings.specs.declared.conditions.Condition.{Condition}
use Rattle.uca_tailorings.specs.declared.conditions.Condition.TheVariants.{BaseIllFormed, TailoredIllFormed, Header, Uncovered, RowChanged, RowMissing, RowExtra, Anchor, NotPlaced, NotFresh, NotNearest}
use Rattle.uca_audit.specs.declared.faults.AuditFault.{AuditFault}
use Rattle.uca_audit.specs.declared.faults.Place.{Place}
use Rattle.uca_audit.specs.declared.faults.Place.TheVariants.{Nowhere, BaseRow, TailoredRow, Relation}

-- the conditions are numbered from 1
abbrev pub number_of : Condition → ℕ
number_of BaseIllFormed = 1
number_of TailoredIllFormed = 2
number_of Header = 3
number_of Uncovered = 4
number_of RowChanged = 5
number_of RowMissing = 6
number_of RowExtra = 7
number_of Anchor = 8
number_of NotPlaced = 9
number_of NotFresh = 10
number_of NotNearest = 11

-- the relation, counted from 1, is the first without the property, which may speak of the relations before it and after it
pub record IsFirstRelationWithout (P : List RelationType → RelationType → List RelationType → Type 0) (relations : List RelationType) (number : ℕ) : Type 0 where
  pub before : List RelationType
  pub r : RelationType
  pub after : List RelationType
  pub split : relations ≡ before ++ r ∷ after
  pub place : number ≡ suc (length before)
  pub earlier : (front : List RelationType) (s : RelationType) (back : List RelationType) → before ≡ front ++ s ∷ back → P front s (back ++ r ∷ after)
  pub without : ¬ (P before r after)

-- the relation, counted from 1, is the first without the property, which is one of a relation alone
abbrev pub IsFirstAloneWithout : (RelationType → Type 0) → List RelationType → ℕ → Type 0
IsFirstAloneWithout P relations number = IsFirstRelationWithout (λ before r after. P r) relations number

-- the position is such a one, with a number that has the property
abbrev pub At : (ℕ → Place) → Place → (ℕ → Type 0) → Type 0
At Numbered place P = (number : ℕ) × (place ≡ Numbered number) × P number

-- The first position where a condition fails. For an ill-formed table it is the row that the check names. Among rows
-- that are missing, those of base keys come first, and then those of targets.
abbrev pub FailsFirstAt : Tailoring → Condition → Place → Type 0
FailsFirstAt tailoring BaseIllFormed place = At BaseRow place (λ row. (wf : ℕ) × IsFirstFailure tailoring.properties.class tailoring.base.rows wf row)
FailsFirstAt tailoring TailoredIllFormed place = At TailoredRow place (λ row. (wf : ℕ) × IsFirstFailure tailoring.properties.class tailoring.tailored.rows wf row)
FailsFirstAt tailoring Header place = (place ≡ Nowhere) × ¬ (tailoring.base.header ≡ tailoring.tailored.header)
FailsFirstAt tailoring Uncovered place = At BaseRow place (IsFirstWithout (IsCoveredRow tailoring) tailoring.base.rows)
FailsFirstAt tailoring RowChanged place = At BaseRow place (IsFirstWithout (IsUnchangedRow tailoring) tailoring.base.rows)
FailsFirstAt tailoring RowMissing place =
    At BaseRow place (IsFirstWithout (IsPresentRow tailoring) tailoring.base.rows)
    ⊎ (AllByRecursion (IsPresentRow tailoring) tailoring.base.rows × At Relation place (IsFirstAloneWithout (IsPresentTarget tailoring) tailoring.relations))
FailsFirstAt tailoring RowExtra place = At TailoredRow place (IsFirstWithout (IsExpectedRow tailoring) tailoring.tailored.rows)
FailsFirstAt tailoring Anchor place = At Relation place (IsFirstAloneWithout (HasAnchor tailoring) tailoring.relations)
FailsFirstAt tailoring NotPlaced place = At Relation place (IsFirstAloneWithout (IsPlaced tailoring) tailoring.relations)
FailsFirstAt tailoring NotFresh place = At Relation place (IsFirstRelationWithout (IsFresh tailoring) tailoring.relations)
FailsFirstAt tailoring NotNearest place = At Relation place (IsFirstRelationWithout (IsNearest tailoring) tailoring.relations)

-- the error names the first condition that fails, and its first position: all conditions of lower numbers are met
pub record IsFirstRefusal (tailoring : Tailoring) (fault : AuditFault) : Type 0 where
  pub condition : Condition
  pub number : fault.number ≡ number_of condition
  pub lower : (other : Condition) → number_of other < number_of condition → Meets tailoring other
  pub fails : FailsFirstAt tailoring condition fault.place

-- an allocation failed
pub record IsMemory (fault : AuditFault) : Type 0 where
  pub number : fault.number ≡ 12
  pub place : fault.place ≡ Nowhere

-- No tailoring is both accepted and rejected.
abbrev pub RefusedTailoringsAreNotAccepted : Type 0
RefusedTailoringsAreNotAccepted = (tailoring : Tailoring) (fault : AuditFault) → IsFirstRefusal tailoring fault → ¬ (IsAccepted tailoring)
