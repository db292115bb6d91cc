-- What is held is the upgrade.
use Rattle.uca_c.proofs.upgrade_slot.UpgradeSlot.keep.Goals as goal

pub invariant_of-opened : goal.invariant_of-opened
invariant_of-opened c = record { told = c.in-Ok.ensures.0; kept = (c.args.upgrade, c.in-Ok.ensures.1) }
