use Rattle.std.proofs.Common.{drop, refl, arith, inl}
use Rattle.std.specs.Str.{chars}
use Rattle.std.proofs.lemmas.Bool.{OnTrue_at}
use Rattle.uca_text_comparer.proofs.BeginningSteps.{rests_cut}
use Rattle.uca_text_comparer.proofs.LevelOneSteps.{rests_compare, rests_on, differ_at}
use Rattle.uca_text_comparer.proofs.ascii.order_ascii.Goals as goal

pub loop-at-init : goal.loop-at-init
loop-at-init c =
    let left = c.args.left.now in
    let right = c.args.right.now in
    let shared = c.args.shared in
    record {
      within = c.requires.within;
      within_too = c.requires.within_too;
      rests = λ collation weighting heads boundary.
          rests_compare collation weighting (chars left) (chars right) _ _
          (rests_cut left right (drop shared left) (drop shared right) shared shared c.utf8.left c.requires.same (omega arith) boundary refl refl);
    }

pub returns-then-branch-2 : goal.returns-then-branch-2
returns-then-branch-2 c = λ collation true_heads.
    let weighting = c.args.heads.now.weighting in
    let heads = c.in_ok-ascii.ensures collation true_heads in
    let left = c.args.left.now in
    let right = c.args.right.now in
    let at = c.loop-at.at in
    let rests = c.loop-at.invariant.rests collation weighting heads c.in_ok-first.ensures.boundary in
    differ_at collation weighting (chars left) (chars right) (chars (drop at left)) (chars (drop at right)) _ _
    c.in_ok-first.first c.in_ok-second.second c.cmp.result rests
    (c.in_ok-first.ensures.next collation weighting heads) (c.in_ok-second.ensures.next collation weighting heads) c.if-first-second.true
    (inl c.if-first-eq0.false) (inl c.if-second-eq0.false) (OnTrue_at c.if-branch.true (c.in_ok-any_goes_on_plain.ensures collation true_heads heads))
    (OnTrue_at c.if-branch-2.true (c.in_ok-any_goes_on_plain-2.ensures collation true_heads heads)) c.cmp.ensures

pub loop-at-preserved : goal.loop-at-preserved
loop-at-preserved c =
    let left = c.args.left.now in
    let right = c.args.right.now in
    let at = c.loop-at.at in
    let first = c.in_ok-first.first in
    let second = c.in_ok-second.second in
    record {
      within = omega (arith, c.if-at-left.false);
      within_too = omega (arith, c.if-at-right.false);
      rests = λ collation weighting heads boundary.
          rests_on collation weighting (chars left) (chars right) (chars (drop at left)) (chars (drop at right)) _ _ first second
          (c.loop-at.invariant.rests collation weighting heads c.in_ok-first.ensures.boundary)
          (c.in_ok-first.ensures.next collation weighting heads) (c.in_ok-second.ensures.next collation weighting heads)
          c.if-first-second.false c.if-first-eq0.false c.if-not-first.false c.if-not-second.false;
    }
