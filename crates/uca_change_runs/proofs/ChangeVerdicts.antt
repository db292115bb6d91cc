-- Rejections of audits of changes.
use Rattle.std.specs.Prelude.{◌≡◌, ◌⊎◌}
use Rattle.std.proofs.Common.{inl, inr}
use Rattle.uca_changes.specs.Changes.{Change}
use Rattle.uca_changes.specs.declared.conditions.ChangeCondition.{ChangeCondition}
use Rattle.uca_changes.specs.declared.faults.ChangeFault.TheVariants as change_faults
use Rattle.uca_changes.specs.declared.faults.ChangePlace.{ChangePlace}
use Rattle.uca_editions.specs.ChangeRefusals.{IsFirstRefusal}

-- a condition that is not met is no lack of memory
pub refusal_of_not_met : (change : Change) (condition : ChangeCondition) (place : ChangePlace)
    → IsFirstRefusal change (change_faults.NotMet condition place) ⊎ (change_faults.NotMet condition place ≡ change_faults.Memory)
    → IsFirstRefusal change (change_faults.NotMet condition place)
refusal_of_not_met change condition place (inl refusal) = refusal
refusal_of_not_met change condition place (inr memory) = let never : ⊥ = cc in absurd never
