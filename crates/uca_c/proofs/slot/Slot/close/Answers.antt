use Rattle.uca_c.proofs.slot.Slot.close.Invariants.{nobody}
use Rattle.uca_c.proofs.slot.Slot.close.Goals as goal

pub invariant_of-closed : goal.invariant_of-closed
invariant_of-closed c = record { told = c.closed.ensures.0; kept = (nobody, c.closed.ensures.1) }
