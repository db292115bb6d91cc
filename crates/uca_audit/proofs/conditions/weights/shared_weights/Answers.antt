-- The sets of all placements are those of the last one.
use Rattle.std.proofs.Common.{subst, sym, take, arith}
use Rattle.std.proofs.lemmas.List.{take_more, take_all}
use Rattle.uca_audit.specs.inside.NewWeights.{HoldsNew}
use Rattle.uca_audit.proofs.conditions.weights.shared_weights.Goals as goal

pub loop-placement-preserved : goal.loop-placement-preserved
loop-placement-preserved g c =
    let placements = c.args.placements.now in
    let i = c.loop-placement.placement-index in
    let more = take_more placements i _ c.loop-placement-test.true in
    subst (λ l. HoldsNew 1 l c.add_again.new.seen × HoldsNew 2 l c.add_again.new.shared) (sym more) (
      c.add_again.ensures.seen (take i placements) c.loop-placement.invariant.0,
      c.add_again.ensures.shared (take i placements) c.loop-placement.invariant.0 c.loop-placement.invariant.1,
    )

pub returns : goal.returns
returns g c =
    subst (λ l. HoldsNew 2 l c.loop-placement.shared)
    (take_all c.loop-placement.placement-index c.args.placements.now (omega arith)) c.loop-placement.invariant.1
