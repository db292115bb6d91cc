-- Eight bytes more are the same, or not, and the last eight decide.
use Rattle.std.proofs.Common.{◌+◌, ◌-◌, arith}
use Rattle.uca_lanes.proofs.LaneSteps.{same_so_far, same_front, eight_more}
use Rattle.uca_lanes.proofs.shared_len.Goals as goal

pub returns-then-same-lt8-clause-same : goal.returns-then-same-lt8-clause-same
returns-then-same-lt8-clause-same c =
    let left = c.args.left.now in
    let right = c.args.right.now in
    let at = c.loop-shared.shared in
    let more = c.same_of_eight-same.ensures in
    let least = c.min-most.ensures in
    let room = c.loop-shared-test.true in
    same_front (at + c.same_of_eight-same.result) left right (omega (arith, more.within, least, room)) (omega (arith, more.within, least, room))
    (same_so_far left right at 8 c.same_of_eight-same.result c.loop-shared.invariant.are more)

pub loop-shared-preserved : goal.loop-shared-preserved
loop-shared-preserved c =
    let room = c.loop-shared-test.true in
    record {
      within = omega (arith, room);
      are = eight_more c.args.left.now c.args.right.now c.loop-shared.shared c.same_of_eight-same.result c.loop-shared.invariant.are c.same_of_eight-same.ensures (omega (arith, c.if-same-lt8.false));
    }

pub returns-clause-same : goal.returns-clause-same
returns-clause-same c =
    let left = c.args.left.now in
    let right = c.args.right.now in
    let at = c.min-most.result - 8 in
    let more = c.same_of_eight.ensures in
    let least = c.min-most.ensures in
    let some = c.if-most-lt8.false in
    let end = c.loop-shared-test.false in
    same_front (at + c.same_of_eight.result) left right (omega (arith, more.within, least, some)) (omega (arith, more.within, least, some))
    (same_so_far left right at 8 c.same_of_eight.result (λ i h. c.loop-shared.invariant.are i (omega (arith, h, end, some))) more)
