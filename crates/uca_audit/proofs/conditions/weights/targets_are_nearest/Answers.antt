-- The tests of placements find which relations are nearest, and their new weights are added to the set.
use Rattle.std.proofs.Common.{add-one, arith, inl, ⊎_elim}
use Rattle.uca_tailorings.specs.Tailorings.{IsNearest}
use Rattle.uca_tailorings.specs.declared.conditions.Condition.TheVariants.{NotNearest}
use Rattle.uca_audit.specs.inside.Views.{tailoring_in, IsPlacement}
use Rattle.uca_audit.proofs.Passes.{below_none, below_whole, length_in_step}
use Rattle.uca_audit.proofs.Nearest.{nearest_more, nearest_fails, known_next}
use Rattle.uca_audit.proofs.FirstRelations.{fails_at_relation}
use Rattle.uca_audit.proofs.conditions.weights.targets_are_nearest.Goals as goal

pub loop-at-init : goal.loop-at-init
loop-at-init g c =
    let tailoring = tailoring_in c.args.inputs.now in (
      (λ level w. (
        (λ has. inl ((c.requires.known level w).0 has)),
        λ is_one. (c.requires.known level w).1 (⊎_elim (λ known. known) (λ none. absurd none) is_one),
      )),
      below_none (IsNearest tailoring) tailoring.relations,
    )

pub at_relation-requires : goal.at_relation-requires
at_relation-requires g c =
    let tailoring = tailoring_in c.args.inputs.now in
    let same = length_in_step (IsPlacement tailoring) tailoring.relations c.args.placements.now c.requires.placed in
    omega arith

pub returns-then-not-is_nearest : goal.returns-then-not-is_nearest
returns-then-not-is_nearest g c =
    inl (fails_at_relation (tailoring_in c.args.inputs.now) NotNearest (IsNearest (tailoring_in c.args.inputs.now)) c.loop-at.at _ c.at_relation.ensures
    (nearest_fails (tailoring_in c.args.inputs.now) c.args.placements.now c.loop-at.known c.loop-at.at _ c.is_nearest.result
    c.requires.placed c.loop-at.invariant.0 c.loop-at-test.true c.loop-at.invariant.1 c.is_nearest.ensures c.if-not-is_nearest.true)
    (λ place at. at))

pub loop-at-preserved : goal.loop-at-preserved
loop-at-preserved g c =
    rw add-one (
      known_next (tailoring_in c.args.inputs.now) c.args.placements.now c.loop-at.known c.add_new.new.set c.loop-at.at _
          c.requires.placed c.loop-at.invariant.0 c.loop-at-test.true c.add_new.ensures,
      nearest_more (tailoring_in c.args.inputs.now) c.args.placements.now c.loop-at.known c.loop-at.at _ c.is_nearest.result
          c.requires.placed c.loop-at.invariant.0 c.loop-at-test.true c.loop-at.invariant.1 c.is_nearest.ensures c.if-not-is_nearest.false,
    )

pub returns : goal.returns
returns g c =
    let tailoring = tailoring_in c.args.inputs.now in
    let same = length_in_step (IsPlacement tailoring) tailoring.relations c.args.placements.now c.requires.placed in
    below_whole (IsNearest tailoring) tailoring.relations c.loop-at.at (omega arith) c.loop-at.invariant.1
