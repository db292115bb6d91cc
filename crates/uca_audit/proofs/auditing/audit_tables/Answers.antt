use Rattle.uca_tailorings.specs.declared.conditions.Condition.TheVariants.{BaseIllFormed, TailoredIllFormed, Header}
use Rattle.uca_audit.specs.inside.Views.{tailoring_in}
use Rattle.uca_audit.proofs.Chaining.{meets_none, meets_more, passes_refused, passes_last}
use Rattle.uca_audit.proofs.auditing.audit_tables.Goals as goal

pub returns-in_err-base_is_well_formed : goal.returns-in_err-base_is_well_formed
returns-in_err-base_is_well_formed g c =
    let t = tailoring_in c.args.inputs.now in
    passes_refused t 4 BaseIllFormed _ _ c.from_residual.ensures.1 (meets_none t) c.in_err-base_is_well_formed.ensures

pub returns-in_err-tailored_is_well_formed : goal.returns-in_err-tailored_is_well_formed
returns-in_err-tailored_is_well_formed g c =
    let t = tailoring_in c.args.inputs.now in
    let below_2 = meets_more t BaseIllFormed (meets_none t) c.in_ok-base_is_well_formed.ensures in
    passes_refused t 4 TailoredIllFormed _ _ c.from_residual-in_err-tailored_is_well_formed.ensures.1 below_2 c.in_err-tailored_is_well_formed.ensures

pub returns : goal.returns
returns g c =
    let t = tailoring_in c.args.inputs.now in
    let below_2 = meets_more t BaseIllFormed (meets_none t) c.in_ok-base_is_well_formed.ensures in
    let below_3 = meets_more t TailoredIllFormed below_2 c.in_ok-tailored_is_well_formed.ensures in
    passes_last t Header c.headers_are_same.result below_3 c.headers_are_same.ensures
