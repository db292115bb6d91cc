use Rattle.uca_tailorings.specs.declared.conditions.Condition.TheVariants.{Uncovered}
use Rattle.uca_audit.specs.inside.Views.{tailoring_in}
use Rattle.uca_audit.proofs.Chaining.{meets_more, passes_refused}
use Rattle.uca_audit.proofs.auditing.audit_images.Goals as goal

pub returns-in_err-weights_are_covered : goal.returns-in_err-weights_are_covered
returns-in_err-weights_are_covered g c =
    passes_refused (tailoring_in c.args.inputs.now) 12 Uncovered _ _ c.from_residual.ensures.1 c.requires.met c.in_err-weights_are_covered.ensures

pub audit_lookup-requires-clause-met : goal.audit_lookup-requires-clause-met
audit_lookup-requires-clause-met g c =
    meets_more (tailoring_in c.args.inputs.now) Uncovered c.requires.met c.in_ok-weights_are_covered.ensures

pub returns : goal.returns
returns g c =
    c.audit_lookup.ensures
