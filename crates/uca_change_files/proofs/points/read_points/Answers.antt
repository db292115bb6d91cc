use Rattle.std.proofs.Common.{List, ℕ, subst, arith}
use Rattle.std.proofs.lemmas.Grind.{common_steps}
use Rattle.uca_table.proofs.DataWords.{some_from_test}
use Rattle.uca_change_files.proofs.Words.{HasRead, no_more, one_read, other_rest, shorter, space_read, no_space}
use Rattle.uca_change_files.proofs.points.read_points.Goals as goal

pub loop-more-preserved : goal.loop-more-preserved
loop-more-preserved g c =
    let text = c.args.text.now in
    let points = c.loop-more.points.items in
    let more = c.in-Some.more.now in
    let so_far = subst (λ (r : List ℕ). HasRead text points r) (space_read c.loop-more.rest.now more c.in-Some.ensures) c.loop-more.invariant in
    rw c.in_ok-push.ensures.items (one_read text points more c.cut_at.result.0.now c.cut_at.result.1.now c.in-Some-point_of.point so_far
    c.cut_at.ensures.front c.cut_at.ensures.back c.in-Some-point_of.ensures)

pub loop-more-smaller : goal.loop-more-smaller
loop-more-smaller g c =
    shorter c.loop-more.rest.now c.in-Some.more.now c.cut_at.result.1.now (space_read c.loop-more.rest.now c.in-Some.more.now c.in-Some.ensures)
    c.cut_at.ensures.back

pub returns-in_default-point_of : goal.returns-in_default-point_of
returns-in_default-point_of g c =
    let text = c.args.text.now in
    let points = c.loop-more.points.items in
    let more = c.in-Some.more.now in
    let so_far = subst (λ (r : List ℕ). HasRead text points r) (space_read c.loop-more.rest.now more c.in-Some.ensures) c.loop-more.invariant in
    no_more text points more c.cut_at.result.0.now so_far c.cut_at.ensures.front c.in_default-point_of.ensures

pub returns-else-is_empty : goal.returns-else-is_empty
returns-else-is_empty g c =
    let rest = c.loop-more.rest.now in
    other_rest c.args.text.now c.loop-more.points.items rest c.loop-more.invariant (some_from_test rest _ c.is_empty.ensures c.if-is_empty.false)
    (λ more e. no_space rest more c.in_default.ensures e)

pub returns-then-is_empty : goal.returns-then-is_empty
returns-then-is_empty g c = grind (arith, common_steps)

pub loop-more-init : goal.loop-more-init
loop-more-init g c = grind (arith, common_steps)
