use Rattle.uca_c.proofs.upgrade_slot.UpgradeSlot.close.Invariants.{nobody}
use Rattle.uca_c.proofs.upgrade_slot.UpgradeSlot.close.Goals as goal

pub invariant_of-closed : goal.invariant_of-closed
invariant_of-closed c = record { told = c.closed.ensures.0; kept = (nobody, c.closed.ensures.1) }
