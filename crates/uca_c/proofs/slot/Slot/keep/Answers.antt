-- What is held is the collator.
use Rattle.uca_c.proofs.slot.Slot.keep.Goals as goal

pub invariant_of-opened : goal.invariant_of-opened
invariant_of-opened c = record { told = c.in-Ok.ensures.0; kept = (c.args.collator, c.in-Ok.ensures.1) }
