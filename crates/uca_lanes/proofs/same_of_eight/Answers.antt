use Rattle.std.proofs.Common.{arith}
use Rattle.uca_lanes.proofs.LaneSteps.{same_lanes}
use Rattle.uca_lanes.proofs.same_of_eight.Goals as goal

pub returns : goal.returns
returns c = same_lanes 8 c.args.left.now c.args.right.now c.args.at c.args.at c.first_set.result c.requires.left c.requires.right (omega arith) c.first_set.ensures
