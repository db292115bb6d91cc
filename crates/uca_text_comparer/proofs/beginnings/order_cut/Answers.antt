use Rattle.std.proofs.Common.{rules}
use Rattle.std.specs.Str.{chars}
use Rattle.uca_text_comparer.proofs.LevelOneSteps.{rests_compare, rests_on, differ_at}
use Rattle.uca_text_comparer.proofs.beginnings.order_cut.Goals as goal

pub loop-first-init : goal.loop-first-init
loop-first-init g c = record {
  left_text = search rules;
  right_text = search rules;
  rests = λ collation entries. rests_compare collation c.args.weighting (chars c.args.left.now) (chars c.args.right.now) _ _ c.in_ok-left_rest.ensures;
}

pub returns-then-begins_plain-2 : goal.returns-then-begins_plain-2
returns-then-begins_plain-2 g c = λ collation entries.
    differ_at collation c.args.weighting (chars c.args.left.now) (chars c.args.right.now) _ _ (chars c.in_ok-first.left_next.now) (chars c.in_ok-second.right_next.now)
    c.in_ok-first.first c.in_ok-second.second c.cmp.result (c.loop-first.invariant.rests collation entries) (c.in_ok-first.ensures.next collation entries)
    (c.in_ok-second.ensures.next collation entries) c.if-first-second.true c.if-decides.ensures c.if-decides-2.ensures
    (c.if-begins_plain.ensures collation entries) (c.if-begins_plain-2.ensures collation entries) c.cmp.ensures

pub loop-first-preserved : goal.loop-first-preserved
loop-first-preserved g c = record {
  left_text = search rules;
  right_text = search rules;
  rests = λ collation entries.
      rests_on collation c.args.weighting (chars c.args.left.now) (chars c.args.right.now) (chars c.loop-first.left_rest.now) (chars c.loop-first.right_rest.now) _ _
      c.in_ok-first.first c.in_ok-second.second (c.loop-first.invariant.rests collation entries) (c.in_ok-first.ensures.next collation entries)
      (c.in_ok-second.ensures.next collation entries) c.if-first-second.false c.if-first-eq0.false c.if-not-first.false c.if-not-second.false;
}
