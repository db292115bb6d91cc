-- The first condition that a change does not meet, and the first position where it does not.
use Rattle.std.specs.Prelude.{◌≡◌, ℕ, ◌<◌}
use Rattle.uca_check.specs.WellFormed.{IsFirstWithout, IsFirstFailure}
use Rattle.uca_elements.specs.Rows.{rows_of}
use Rattle.uca_tailorings.specs.KeptRows.{IsKeptRow, IsKnownRow}
use Rattle.uca_images.specs.UnlistedRows.{IsCoveredIfUnlisted, IsPresentIfUnlisted}
use Rattle.uca_changes.specs.Points.{IsSamePair, IsSamePoint, IsFirstOutsideWithout}
use Rattle.uca_changes.specs.Changes.{Change, IsChangedText, Meets, IsAcceptedChange, number_of}
use Rattle.uca_changes.specs.declared.conditions.ChangeCondition.{ChangeCondition}
use Rattle.uca_changes.specs.declared.conditions.ChangeCondition.TheVariants.{OldIllFormed, NewIllFormed, RangeChanged, Uncovered, RowChanged, RowMissing, RowExtra, PointChanged, SettingChanged}
use Rattle.uca_changes.specs.declared.faults.ChangeFault.{ChangeFault}
use Rattle.uca_changes.specs.declared.faults.ChangeFault.TheVariants.{NotMet}
use Rattle.uca_changes.specs.declared.faults.ChangePlace.{ChangePlace}
use Rattle.uca_changes.specs.declared.faults.ChangePlace.TheVariants.{OldRow, NewRow, CodePoint, Nowhere}

-- the position is such a one, with a number that has the property
abbrev pub At : (ℕ → ChangePlace) → ChangePlace → (ℕ → Type 0) → Type 0
At Numbered place P = (number : ℕ) × (place ≡ Numbered number) × P number

-- The first position where a condition is not met: a row, counted from 1, or the least code point. For an ill-formed table it
-- is the row that the check names. Where the headers say two weightings, there is no position.
abbrev pub FailsFirstAt : Change → ChangeCondition → ChangePlace → Type 0
FailsFirstAt change OldIllFormed place = At OldRow place (λ row. (wf : ℕ) × IsFirstFailure change.old_properties.class change.old.rows wf row)
FailsFirstAt change NewIllFormed place = At NewRow place (λ row. (wf : ℕ) × IsFirstFailure change.new_properties.class change.new.rows wf row)
FailsFirstAt change RangeChanged place = At CodePoint place (IsFirstOutsideWithout change.ranges (IsSamePair change.old.header.ranges change.new.header.ranges))
FailsFirstAt change Uncovered place = At OldRow place (IsFirstWithout (IsCoveredIfUnlisted change.maps (IsChangedText change)) change.old.rows)
FailsFirstAt change RowChanged place =
    At OldRow place (IsFirstWithout (IsKeptRow change.maps (IsChangedText change) (rows_of change.new.rows)) change.old.rows)
FailsFirstAt change RowMissing place = At OldRow place (IsFirstWithout (IsPresentIfUnlisted (IsChangedText change) (rows_of change.new.rows)) change.old.rows)
FailsFirstAt change RowExtra place = At NewRow place (IsFirstWithout (IsKnownRow (IsChangedText change) (rows_of change.old.rows)) change.new.rows)
FailsFirstAt change PointChanged place = At CodePoint place (IsFirstOutsideWithout change.ranges (IsSamePoint change.old_properties change.new_properties))
FailsFirstAt change SettingChanged place = (place ≡ Nowhere) × ¬ (Meets change SettingChanged)

-- the error names the first condition that is not met, and its first position: all conditions of lower numbers are met
pub record IsFirstRefusal (change : Change) (fault : ChangeFault) : Type 0 where
  pub condition : ChangeCondition
  pub place : ChangePlace
  pub is : fault ≡ NotMet condition place
  pub lower : (other : ChangeCondition) → number_of other < number_of condition → Meets change other
  pub fails : FailsFirstAt change condition place

-- No change is both accepted and rejected.
abbrev pub RefusedChangesAreNotAccepted : Type 0
RefusedChangesAreNotAccepted = (change : Change) (fault : ChangeFault) → IsFirstRefusal change fault → ¬ (IsAcceptedChange change)
