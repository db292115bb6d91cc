-- The slot tells what its handle holds.
use Rattle.std.proofs.Common.{◌∙◌, refl}
use Rattle.uca_c.proofs.slot.Slot.opened.Goals as goal

pub collator-requires : goal.collator-requires
collator-requires c = (c.args.self.now.kept.0, c.held-held.ensures.value ∙ c.args.self.now.kept.1)

pub invariant_of-self-lent : goal.invariant_of-self-lent
invariant_of-self-lent c w = (c.args.self.now.told, ((w, refl), tt))
