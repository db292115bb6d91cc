use Rattle.std.proofs.Common.{◌+◌, arith}
use Rattle.uca_ranges.proofs.PlainKeys.{plain_second, plain_third, plain_later}
use Rattle.uca_ranges.proofs.plain.plain_run.Goals as goal

pub returns-then-count-eq1 : goal.returns-then-count-eq1
returns-then-count-eq1 c levels are some is =
    plain_second c.weight_count-letters.result c.args.bytes.now levels c.weight_count-letters.ensures.count (omega (arith, are.0, c.if-count-eq1.true), are.1) is

pub returns-then-count-eq2 : goal.returns-then-count-eq2
returns-then-count-eq2 c levels are some is =
    plain_third c.weight_count.result c.args.bytes.now levels c.weight_count.ensures.count (omega (arith, are.0, c.if-count-eq2.true), are.1) is

pub returns : goal.returns
returns c levels are some is =
    plain_later c.args.count c.weight_count-3.result c.weight_count-2.result c.weight_count-letters.result (c.weight_count-3.result + c.saturating_sub-later.result)
    c.args.bytes.now levels c.weight_count-3.ensures.count c.weight_count-2.ensures.count c.weight_count-letters.ensures.count
    (omega (arith, c.saturating_sub-later.ensures)) are (omega (arith, c.if-count-eq1.false, c.if-count-eq2.false, some)) is
