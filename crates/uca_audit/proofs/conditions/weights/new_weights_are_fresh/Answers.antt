-- The tests of placements find which relations are fresh.
use Rattle.std.proofs.Common.{add-one, arith, inl}
use Rattle.uca_tailorings.specs.Tailorings.{IsFresh}
use Rattle.uca_tailorings.specs.declared.conditions.Condition.TheVariants.{NotFresh}
use Rattle.uca_audit.specs.inside.Views.{tailoring_in, IsPlacement}
use Rattle.uca_audit.proofs.Passes.{below_none, below_whole, length_in_step}
use Rattle.uca_audit.proofs.Fresh.{fresh_more, fresh_fails}
use Rattle.uca_audit.proofs.FirstRelations.{fails_at_relation}
use Rattle.uca_audit.proofs.conditions.weights.new_weights_are_fresh.Goals as goal

pub loop-at-init : goal.loop-at-init
loop-at-init g c = let tailoring = tailoring_in c.args.inputs.now in below_none (IsFresh tailoring) tailoring.relations

pub at_relation-requires : goal.at_relation-requires
at_relation-requires g c =
    let tailoring = tailoring_in c.args.inputs.now in
    let same = length_in_step (IsPlacement tailoring) tailoring.relations c.args.placements.now c.requires.placed in
    omega arith

pub returns-then-not-is_fresh : goal.returns-then-not-is_fresh
returns-then-not-is_fresh g c =
    inl (fails_at_relation (tailoring_in c.args.inputs.now) NotFresh (IsFresh (tailoring_in c.args.inputs.now)) c.loop-at.at _ c.at_relation.ensures
    (fresh_fails (tailoring_in c.args.inputs.now) c.args.placements.now c.args.known.now c.in_ok-shared.shared c.loop-at.at _ c.is_fresh.result
    c.requires.placed c.requires.known c.in_ok-shared.ensures c.loop-at-test.true c.loop-at.invariant c.is_fresh.ensures c.if-not-is_fresh.true)
    (λ place at. at))

pub loop-at-preserved : goal.loop-at-preserved
loop-at-preserved g c =
    rw add-one
    (fresh_more (tailoring_in c.args.inputs.now) c.args.placements.now c.args.known.now c.in_ok-shared.shared c.loop-at.at _ c.is_fresh.result
    c.requires.placed c.requires.known c.in_ok-shared.ensures c.loop-at-test.true c.loop-at.invariant c.is_fresh.ensures c.if-not-is_fresh.false)

pub returns : goal.returns
returns g c =
    let tailoring = tailoring_in c.args.inputs.now in
    let same = length_in_step (IsPlacement tailoring) tailoring.relations c.args.placements.now c.requires.placed in
    below_whole (IsFresh tailoring) tailoring.relations c.loop-at.at (omega arith) c.loop-at.invariant
