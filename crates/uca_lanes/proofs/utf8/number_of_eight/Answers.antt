use Rattle.std.proofs.Math.Nat.{mod-eq_of_lt}
use Rattle.uca_lanes.proofs.MaskSteps.{number_bound}
use Rattle.uca_lanes.proofs.utf8.number_of_eight.Goals as goal

pub returns : goal.returns
returns c = mod-eq_of_lt (number_bound c.args.at 8 c.args.bytes.now c.type_inv.bytes c.requires)
