use Rattle.uca_tailorings.specs.declared.conditions.Condition.TheVariants.{RowChanged, RowMissing, RowExtra}
use Rattle.uca_audit.specs.inside.Views.{tailoring_in}
use Rattle.uca_audit.proofs.Chaining.{meets_more, passes_refused, passes_last}
use Rattle.uca_audit.proofs.auditing.audit_table_rows.Goals as goal

pub returns-in_err-rows_are_unchanged : goal.returns-in_err-rows_are_unchanged
returns-in_err-rows_are_unchanged g c =
    let t = tailoring_in c.args.inputs.now in
    passes_refused t 8 RowChanged _ _ c.from_residual.ensures.1 c.requires.met c.in_err-rows_are_unchanged.ensures

pub returns-in_err-rows_are_present : goal.returns-in_err-rows_are_present
returns-in_err-rows_are_present g c =
    let t = tailoring_in c.args.inputs.now in
    let below_6 = meets_more t RowChanged c.requires.met c.in_ok-rows_are_unchanged.ensures in
    passes_refused t 8 RowMissing _ _ c.from_residual-in_err-rows_are_present.ensures.1 below_6 c.in_err-rows_are_present.ensures

pub returns : goal.returns
returns g c =
    let t = tailoring_in c.args.inputs.now in
    let below_6 = meets_more t RowChanged c.requires.met c.in_ok-rows_are_unchanged.ensures in
    let below_7 = meets_more t RowMissing below_6 c.in_ok-rows_are_present.ensures in
    passes_last t RowExtra c.rows_are_expected.result below_7 c.rows_are_expected.ensures
