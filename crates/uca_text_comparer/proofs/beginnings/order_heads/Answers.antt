use Rattle.std.proofs.Common.{◌≡◌, take, drop, refl, sym, ap, ◌∙◌, take-take, arith}
use Rattle.std.specs.Str.{chars}
use Rattle.std.proofs.lemmas.Bool.{OnTrue_at}
use Rattle.uca_text_comparer.proofs.BeginningSteps.{rests_cut}
use Rattle.uca_text_comparer.proofs.HeadSteps.{boundary_too}
use Rattle.uca_text_comparer.proofs.LevelOneSteps.{rests_compare, rests_on, differ_at}
use Rattle.uca_text_comparer.proofs.beginnings.order_heads.Goals as goal

pub loop-left_head-init : goal.loop-left_head-init
loop-left_head-init c =
    let left = c.args.left.now in
    let right = c.args.right.now in
    let shared = c.args.shared in
    let at = c.floor_char_boundary-cut.result in
    let said = c.floor_char_boundary-cut.ensures in
    let same : take at left ≡ take at right = sym (take-take at shared left said.bound) ∙ ap (take at) c.requires.same ∙ take-take at shared right said.bound in
    record {
      boundary = said.boundary;
      boundary_too = boundary_too left right at c.utf8.left c.utf8.right (let low = said.bound in let within = c.requires.within_too in omega (arith, low, within)) same said.boundary;
      rests = λ collation heads.
          rests_compare collation c.args.heads.now.weighting (chars left) (chars right) _ _
          (rests_cut left right (drop at left) (drop at right) shared at c.utf8.left c.requires.same said.bound said.boundary refl refl);
    }

pub returns-then-branch-2 : goal.returns-then-branch-2
returns-then-branch-2 c = λ collation heads apart.
    let left = c.args.left.now in
    let right = c.args.right.now in
    differ_at collation c.args.heads.now.weighting (chars left) (chars right) (chars (drop c.loop-left_head.left_at left)) (chars (drop c.loop-left_head.right_at right)) _ _
    c.in_ok-left_head.left_head c.in_ok-right_head.right_head c.cmp.result (c.loop-left_head.invariant.rests collation heads)
    (c.in_ok-left_head.ensures.next collation heads) (c.in_ok-right_head.ensures.next collation heads) c.if-left_head-right_head.true
    c.if-decides.ensures c.if-decides-2.ensures (OnTrue_at c.if-branch.true (c.in_ok-goes_on_plain.ensures collation heads))
    (OnTrue_at c.if-branch-2.true (c.in_ok-goes_on_plain-2.ensures collation heads)) c.cmp.ensures

pub loop-left_head-preserved : goal.loop-left_head-preserved
loop-left_head-preserved c = record {
  boundary = c.in_ok-left_head.ensures.boundary;
  boundary_too = c.in_ok-right_head.ensures.boundary;
  rests = λ collation heads.
      let left = c.args.left.now in
      let right = c.args.right.now in
      rests_on collation c.args.heads.now.weighting (chars left) (chars right) (chars (drop c.loop-left_head.left_at left)) (chars (drop c.loop-left_head.right_at right)) _ _
      c.in_ok-left_head.left_head c.in_ok-right_head.right_head (c.loop-left_head.invariant.rests collation heads) (c.in_ok-left_head.ensures.next collation heads)
      (c.in_ok-right_head.ensures.next collation heads) c.if-left_head-right_head.false c.if-left_head-eq0.false c.if-not-left_head.false c.if-not-right_head.false;
}
