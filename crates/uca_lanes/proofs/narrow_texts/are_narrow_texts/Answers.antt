use Rattle.uca_lanes.proofs.Ends.{ends_judged}
use Rattle.uca_lanes.proofs.narrow_texts.are_narrow_texts.Goals as goal

pub returns-then-right-le-SHORT : goal.returns-then-right-le-SHORT
returns-then-right-le-SHORT c =
    let left = ends_judged c.args.left.now c.ends_of.result c.if-left-le-SHORT.true c.ends_of.ensures in
    let right = ends_judged c.args.right.now c.ends_of-then-right-le-SHORT.result c.if-right-le-SHORT.true c.ends_of-then-right-le-SHORT.ensures in (
      λ yes. (let h = c.are_narrow.ensures.0 yes in (left.0 h.0, right.0 h.1)),
      λ both. c.are_narrow.ensures.1 (left.1 both.0, right.1 both.1),
    )
