use Rattle.std.proofs.Common.{arith}
use Rattle.std.proofs.lemmas.Bool.{cases_from_iff}
use Rattle.uca_lanes.proofs.Ends.{ends_judged}
use Rattle.uca_lanes.proofs.narrow_texts.are_same_narrow.Goals as goal

pub returns-then-are_same_few : goal.returns-then-are_same_few
returns-then-are_same_few c =
    let few = c.if-left-gt-SHORT.false in
    let judged = ends_judged c.args.left.now c.ends_of.result (omega (arith, few)) c.ends_of.ensures in
    cases_from_iff (
      λ yes. (let h = judged.0 (c.is_narrow.ensures.0 yes) in (omega (arith, few), c.if-are_same_few.ensures, h.0, h.1)),
      λ all. c.is_narrow.ensures.1 (judged.1 (all.2, all.3)),
    )
