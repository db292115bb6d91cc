use Rattle.std.proofs.Common.{◌∙◌}
use Rattle.std.proofs.Math.Nat.{mod-eq_of_lt}
use Rattle.uca_lanes.proofs.MaskSteps.{number_bound}
use Rattle.uca_lanes.proofs.utf8.number_of_four.Goals as goal

pub returns-clause-number : goal.returns-clause-number
returns-clause-number c = c.from.ensures ∙ mod-eq_of_lt (number_bound c.args.at 4 c.args.bytes.now c.type_inv.bytes c.requires)
