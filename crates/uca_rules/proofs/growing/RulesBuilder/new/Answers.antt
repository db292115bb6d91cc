-- No relations are rules.
use Rattle.uca_rules.proofs.HeldTexts.{growing_none}
use Rattle.uca_rules.proofs.growing.RulesBuilder.new.Goals as goal

pub returns-clause-growing : goal.returns-clause-growing
returns-clause-growing g c = growing_none _ c.new.ensures.items c.new-2.ensures.items
