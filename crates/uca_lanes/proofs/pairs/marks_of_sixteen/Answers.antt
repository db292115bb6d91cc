use Rattle.std.proofs.Common.{arith}
use Rattle.uca_lanes.proofs.PairSteps.{few_marked, more_marked}
use Rattle.uca_lanes.proofs.pairs.marks_of_sixteen.Goals as goal

pub returns-then-end-le16-clause-marks : goal.returns-then-end-le16-clause-marks
returns-then-end-le16-clause-marks c =
    few_marked c.args.bytes.now c.with_zeros.result c.args.number c.marks_of_eight.result (let few = c.if-end-le16.true in let is = c.min-end.ensures in omega (arith, few, is)) c.with_zeros.ensures
    c.marks_of_eight.ensures.marks

pub returns-clause-marks : goal.returns-clause-marks
returns-clause-marks c =
    more_marked c.args.bytes.now c.args.number c.min-end.result c.marks_of_eight-2.result c.marks_of_eight-back.result (let is = c.min-end.ensures in omega (arith, is)) c.if-end-le16.false c.requires
    c.marks_of_eight-2.ensures.marks c.marks_of_eight-back.ensures.marks
