-- A change that is rejected is not accepted.
use Rattle.uca_check.proofs.WellFormedLemmas.{no_row_without, no_form_fails}
use Rattle.uca_changes.specs.declared.conditions.ChangeCondition.{ChangeCondition}
use Rattle.uca_changes.specs.declared.conditions.ChangeCondition.TheVariants.{OldIllFormed, NewIllFormed, RangeChanged, Uncovered, RowChanged, RowMissing, RowExtra, PointChanged, SettingChanged}
use Rattle.uca_changes.specs.Changes.{Change, Meets}
use Rattle.uca_changes.specs.declared.faults.ChangePlace.{ChangePlace}
use Rattle.uca_editions.specs.ChangeRefusals.{FailsFirstAt, RefusedChangesAreNotAccepted}

-- a condition that is met fails nowhere
pub fails_nowhere : (change : Change) (condition : ChangeCondition) (place : ChangePlace) → Meets change condition → FailsFirstAt change condition place → ⊥
fails_nowhere c OldIllFormed place met fails = no_form_fails c.old_properties.class c.old.rows fails.2.0 fails.0 met fails.2.1
fails_nowhere c NewIllFormed place met fails = no_form_fails c.new_properties.class c.new.rows fails.2.0 fails.0 met fails.2.1
fails_nowhere c RangeChanged place met fails = fails.2.without (met fails.0 fails.2.scalar fails.2.outside)
fails_nowhere c Uncovered place met fails = no_row_without _ c.old.rows fails.0 met fails.2
fails_nowhere c RowChanged place met fails = no_row_without _ c.old.rows fails.0 met fails.2
fails_nowhere c RowMissing place met fails = no_row_without _ c.old.rows fails.0 met fails.2
fails_nowhere c RowExtra place met fails = no_row_without _ c.new.rows fails.0 met fails.2
fails_nowhere c PointChanged place met fails = fails.2.without (met fails.0 fails.2.scalar fails.2.outside)
fails_nowhere c SettingChanged place met fails = fails.1 met

pub refused_not_accepted : RefusedChangesAreNotAccepted
refused_not_accepted change fault refusal accepted = fails_nowhere change refusal.condition refusal.place (accepted refusal.condition) refusal.fails
