use Rattle.std.proofs.Common.{rules, ℕ, ◌+◌, take, sym, subst, ◌∙◌}
use Rattle.std.specs.Char.{IsScalar}
use Rattle.std.proofs.lemmas.Bool.{false≢true}
use Rattle.uca_changes.specs.Points.{IsSamePair}
use Rattle.uca_editions.specs.inside.Borders.{IfOutside, FindsLeast}
use Rattle.uca_editions.proofs.FirstOutside.{least_here, least_before, least_whole}
use Rattle.uca_editions.proofs.points.least_other_pair.Goals as goal
use Rattle.uca_editions.proofs.points.least_other_pair.Goals.{then-is_below+then-not-is_same_pair, else-is_below, else-is_below-via-then-is_below+else-not-is_same_pair, else-is_below-via-else-is_below}

pub loop-point-preserved : goal.loop-point-preserved
loop-point-preserved g c =
    let P : ℕ → Type 0 = IfOutside c.args.changes.now.ranges (IsSamePair c.args.old.now.ranges c.args.new.now.ranges) in
    let points = c.args.points.now in
    let at = c.loop-point.point-index in
    let point = c.point-item.result in
    let scalar : IsScalar c.point-item.result = search rules in
    elim c.if-is_below.branch [
      | then-is_below+then-not-is_same_pair w ↦
          subst (FindsLeast P (take (at + 1) points)) (sym w.least-is)
          (least_here P points at point c.loop-point.least c.loop-point-test.true c.point-item.is c.loop-point.invariant
          (c.is_below.ensures.0 w.if-is_below.true) scalar
          (λ has. false≢true (sym w.if-not-is_same_pair.true ∙ w.is_same_pair.ensures.1 has)))
      | else-is_below w ↦
          subst (FindsLeast P (take (at + 1) points)) (sym w.least-is)
          (least_before P points at point c.loop-point.least c.loop-point-test.true c.point-item.is c.loop-point.invariant
          (λ below. elim w.else-is_below.branch [
            | else-is_below-via-then-is_below+else-not-is_same_pair w' ↦ w'.is_same_pair.ensures.0 w'.if-not-is_same_pair.false
            | else-is_below-via-else-is_below w' ↦ absurd (false≢true (sym w'.if-is_below.false ∙ c.is_below.ensures.1 below))
          ]))
    ]

pub returns : goal.returns
returns g c =
    least_whole (IfOutside c.args.changes.now.ranges (IsSamePair c.args.old.now.ranges c.args.new.now.ranges)) c.args.points.now c.loop-point.point-index c.loop-point.least c.loop-point-test.false c.loop-point.invariant
