use Rattle.std.proofs.Common.{refl, arith}
use Rattle.uca_values.proofs.Gaps.{few_put, keeps_rising, no_range, taken}
use Rattle.uca_values.proofs.characters.insert_range.Goals as goal

pub returns-clause-rising : goal.returns-clause-rising
returns-clause-rising g c =
    keeps_rising c.args.ranges.now.items _ _ c.args.range _ c.deref.ensures.value (taken _ _ _ _ _ c.insert.ensures.items c.is_err.ensures.negation c.if-is_err.false) c.requires.rising (omega arith) c.in-Some.ensures

pub returns-clause-few : goal.returns-clause-few
returns-clause-few g c =
    few_put c.args.ranges.now.items _ _ c.args.range _ c.deref.ensures.value (taken _ _ _ _ _ c.insert.ensures.items c.is_err.ensures.negation c.if-is_err.false) c.in-Some.ensures (omega (arith, c.len.ensures))

pub returns-then-len-ge-MOST_RANGES-clause-refused : goal.returns-then-len-ge-MOST_RANGES-clause-refused
returns-then-len-ge-MOST_RANGES-clause-refused g c =
    let apart = no_range c.deref.result.now c.args.beside.now c.args.range c.in-Some.at _ c.in-Some.ensures c.in-Some-range_gap.ensures in
    (refl, (omega arith, rw c.deref.ensures.value at apart, omega (arith, c.len.ensures)))
