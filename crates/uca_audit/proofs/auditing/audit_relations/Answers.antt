use Rattle.uca_tailorings.specs.declared.conditions.Condition.TheVariants.{Anchor, NotPlaced}
use Rattle.uca_audit.specs.inside.Views.{tailoring_in}
use Rattle.uca_audit.proofs.Chaining.{meets_more, passes_refused}
use Rattle.uca_audit.proofs.auditing.audit_relations.Goals as goal

pub returns-in_err-anchors_are_there : goal.returns-in_err-anchors_are_there
returns-in_err-anchors_are_there g c =
    passes_refused (tailoring_in c.args.inputs.now) 12 Anchor _ _ c.from_residual.ensures.1 c.requires.met c.in_err-anchors_are_there.ensures

pub returns-in_err-targets_are_placed : goal.returns-in_err-targets_are_placed
returns-in_err-targets_are_placed g c =
    let t = tailoring_in c.args.inputs.now in
    let below_9 = meets_more t Anchor c.requires.met c.in_ok-anchors_are_there.ensures in
    passes_refused t 12 NotPlaced _ _ c.from_residual-in_err-targets_are_placed.ensures.1 below_9 c.in_err-targets_are_placed.ensures.settled

pub audit_new_weights-requires-clause-met : goal.audit_new_weights-requires-clause-met
audit_new_weights-requires-clause-met g c =
    let t = tailoring_in c.args.inputs.now in
    let below_9 = meets_more t Anchor c.requires.met c.in_ok-anchors_are_there.ensures in
    meets_more t NotPlaced below_9 c.in_ok-targets_are_placed.ensures.settled

pub returns : goal.returns
returns g c =
    c.audit_new_weights.ensures
