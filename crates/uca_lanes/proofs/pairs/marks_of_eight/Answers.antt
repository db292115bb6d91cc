use Rattle.std.proofs.Common.{refl}
use Rattle.uca_lanes.proofs.PairSteps.{eight_marked}
use Rattle.uca_lanes.proofs.pairs.marks_of_eight.Goals as goal

pub returns-clause-marks : goal.returns-clause-marks
returns-clause-marks c = eight_marked c.args.bytes c.args.number _ c.fits-bytes.0 c.fits-bytes.1 c.ranges.number.fits refl
