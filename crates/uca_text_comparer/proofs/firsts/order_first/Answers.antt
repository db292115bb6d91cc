use Rattle.std.proofs.Common.{drop, refl, arith, inl}
use Rattle.std.specs.Str.{chars}
use Rattle.uca_text_comparer.proofs.BeginningSteps.{rests_cut}
use Rattle.uca_text_comparer.proofs.LevelOneSteps.{rests_compare, differ_at}
use Rattle.uca_text_comparer.proofs.firsts.order_first.Goals as goal

pub returns-then-goes_on_plain-2 : goal.returns-then-goes_on_plain-2
returns-then-goes_on_plain-2 c = λ collation true_heads.
    let weighting = c.args.heads.now.weighting in
    let firsts = c.in_ok-firsts.ensures collation true_heads in
    let left = c.args.left.now in
    let right = c.args.right.now in
    let shared = c.args.shared in
    let some = c.if-first-ne0.true in
    let some_too = c.if-second-ne0.true in
    let boundary = c.first_at-first.ensures.boundary collation weighting firsts some in
    let boundary_too = c.first_at-second.ensures.boundary collation weighting firsts some_too in
    let rests = rests_compare collation weighting (chars left) (chars right) _ _
    (rests_cut left right (drop shared left) (drop shared right) shared shared c.utf8.left c.requires (omega arith) boundary.0 refl refl) in
    differ_at collation weighting (chars left) (chars right) (chars (drop shared left)) (chars (drop shared right)) _ _
    c.first_at-first.result c.first_at-second.result c.cmp.result rests
    (c.first_at-first.ensures.next collation weighting firsts some) (c.first_at-second.ensures.next collation weighting firsts some_too) c.if-first-second.true
    (inl some) (inl some_too) (c.if-goes_on_plain.ensures collation weighting firsts boundary.1)
    (c.if-goes_on_plain-2.ensures collation weighting firsts boundary_too.1) c.cmp.ensures
