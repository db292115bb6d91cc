-- Up to sixteen bytes are the same by the numbers that they spell, and more if their first bytes and their last ones are.
use Rattle.std.proofs.Common.{◌≡◌, ◌-◌, ◌<◌, ◌≤◌, length, arith, subst}
use Rattle.std.specs.Simd.Lanes.{chunk}
use Rattle.std.proofs.lemmas.Bool.{cases_from_iff}
use Rattle.uca_lanes.specs.inside.Lanes.{IsSameRun}
use Rattle.uca_lanes.proofs.ShortTexts.{same_ends}
use Rattle.uca_lanes.proofs.Whole.{of_ends, with_zeros_judged}
use Rattle.uca_lanes.proofs.short.are_same_short.Goals as goal

pub returns-then-are_same_few : goal.returns-then-are_same_few
returns-then-are_same_few c =
    let judged = with_zeros_judged c.args.left.now c.with_zeros.result c.with_zeros.ensures in
    cases_from_iff (
      λ yes. (omega (arith, c.if-len-le16.true), c.if-are_same_few.ensures, judged.0 (c.are_utf8.ensures.0 yes)),
      λ all. c.are_utf8.ensures.1 (judged.1 all.2),
    )

pub returns-then-min-eq16 : goal.returns-then-min-eq16
returns-then-min-eq16 c =
    let left = c.args.left.now in
    let right = c.args.right.now in
    let some : 16 < length left = c.if-len-le16.false in
    let few : length left ≤ 32 = c.if-len-gt-AT_ONCE.false in
    let fronts = c.same_of_sixteen-fronts in
    let backs = c.same_of_sixteen-backs in
    let all_of_front : fronts.result ≡ 16 = omega (arith, fronts.ensures.within, c.min.ensures, c.if-min-eq16.true) in
    let all_of_back : backs.result ≡ 16 = omega (arith, backs.ensures.within, c.min.ensures, c.if-min-eq16.true) in
    let same = same_ends left right c.if-len-right.false some few
    (subst (λ n. IsSameRun (chunk 0 16 left) (chunk 0 16 right) 0 0 16 n) all_of_front fronts.ensures)
    (subst (λ n. IsSameRun (chunk (length left - 16) 16 left) (chunk (length left - 16) 16 right) 0 0 16 n) all_of_back backs.ensures) in
    let judged = of_ends left c.are_utf8-then-min-eq16.result some few c.are_utf8-then-min-eq16.ensures in
    cases_from_iff (λ yes. (few, same, judged.0 yes), λ all. judged.1 all.2)
