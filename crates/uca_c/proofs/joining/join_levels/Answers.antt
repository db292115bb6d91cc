use Rattle.std.proofs.Common.{[], arith}
use Rattle.uca_c.proofs.JoinedKeys.{joined_four, joined_three, none_written, writes}
use Rattle.uca_c.proofs.joining.join_levels.Goals as goal

pub returns-in-NonIgnorable-clause-ok : goal.returns-in-NonIgnorable-clause-ok
returns-in-NonIgnorable-clause-ok c ok =
    let before = c.args.out.now in
    let one = c.put_bytes-at.ensures.written [] before (none_written before) in
    let two = c.put_level-at.ensures.written _ before one in
    let three = c.put_level-at-2.ensures.written _ before two in
    writes _ _ before _ _ _ three (joined_three c.args.weighting c.args.levels.now c.in-NonIgnorable.is) c.in_ok-len.ensures (omega (arith, c.if-out-len.false))

pub returns-in-Shifted-clause-ok : goal.returns-in-Shifted-clause-ok
returns-in-Shifted-clause-ok c ok =
    let before = c.args.out.now in
    let one = c.put_bytes-at.ensures.written [] before (none_written before) in
    let two = c.put_level-at.ensures.written _ before one in
    let three = c.put_level-at-2.ensures.written _ before two in
    let four = c.put_level.ensures.written _ before three in
    writes _ _ before _ _ _ four (joined_four c.args.weighting c.args.levels.now c.in-Shifted.is) c.in_ok-len.ensures (omega (arith, c.if-out-len.false))
