use Rattle.uca_tailorings.specs.declared.conditions.Condition.TheVariants.{NotFresh, NotNearest}
use Rattle.uca_audit.specs.inside.Views.{tailoring_in}
use Rattle.uca_audit.proofs.Chaining.{meets_more, passes_refused, passes_last}
use Rattle.uca_audit.proofs.auditing.audit_new_weights.Goals as goal

pub returns-in_err-new_weights_are_fresh : goal.returns-in_err-new_weights_are_fresh
returns-in_err-new_weights_are_fresh g c =
    passes_refused (tailoring_in c.args.inputs.now) 12 NotFresh _ _ c.from_residual-in_err-new_weights_are_fresh.ensures.1 c.requires.met
    c.in_err-new_weights_are_fresh.ensures

pub returns : goal.returns
returns g c =
    let t = tailoring_in c.args.inputs.now in
    let below_11 = meets_more t NotFresh c.requires.met c.in_ok-new_weights_are_fresh.ensures in
    passes_last t NotNearest c.targets_are_nearest.result below_11 c.targets_are_nearest.ensures
