use Rattle.std.proofs.Common.{drop}
use Rattle.std.specs.Str.{chars}
use Rattle.std.proofs.lemmas.Bool.{OnTrue_at}
use Rattle.uca_text_comparer.proofs.LevelOneSteps.{differ_at}
use Rattle.uca_text_comparer.proofs.ascii.order_at_end.Goals as goal

pub returns-then-branch-2 : goal.returns-then-branch-2
returns-then-branch-2 c = λ collation weighting heads.
    let left = c.args.left.now in
    let right = c.args.right.now in
    let at = c.args.at in
    let rests = c.requires.rests collation weighting heads (c.in_ok-first.ensures.boundary c.requires.within) in
    differ_at collation weighting (chars left) (chars right) (chars (drop at left)) (chars (drop at right)) _ _
    c.in_ok-first.first c.in_ok-second.second c.cmp.result rests
    (c.in_ok-first.ensures.next collation weighting heads) (c.in_ok-second.ensures.next collation weighting heads) c.if-first-second.true
    c.if-decides.ensures c.if-decides-2.ensures (OnTrue_at c.if-branch.true (c.in_ok-goes_on_plain.ensures collation weighting heads))
    (OnTrue_at c.if-branch-2.true (c.in_ok-goes_on_plain-2.ensures collation weighting heads)) c.cmp.ensures
