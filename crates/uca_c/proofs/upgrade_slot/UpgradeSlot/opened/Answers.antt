-- The slot tells what its handle holds.
use Rattle.std.proofs.Common.{◌∙◌, refl}
use Rattle.uca_c.proofs.upgrade_slot.UpgradeSlot.opened.Goals as goal

pub upgrade-requires : goal.upgrade-requires
upgrade-requires c = (c.args.self.now.kept.0, c.held-held.ensures.value ∙ c.args.self.now.kept.1)

pub invariant_of-self-lent : goal.invariant_of-self-lent
invariant_of-self-lent c w = (c.args.self.now.told, ((w, refl), tt))
