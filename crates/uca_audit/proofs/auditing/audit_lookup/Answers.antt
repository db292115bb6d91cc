use Rattle.uca_audit.specs.inside.Views.{tailoring_in}
use Rattle.uca_audit.proofs.Chaining.{passes_failed}
use Rattle.uca_audit.proofs.auditing.audit_lookup.Goals as goal

pub returns-in_err-audit_rows : goal.returns-in_err-audit_rows
returns-in_err-audit_rows g c =
    passes_failed (tailoring_in c.args.inputs.now) 12 _ _ c.from_residual.ensures.1 c.in_err-audit_rows.ensures

pub audit_relations-requires-clause-met : goal.audit_relations-requires-clause-met
audit_relations-requires-clause-met g c =
    c.in_ok-audit_rows.ensures

pub returns : goal.returns
returns g c =
    c.audit_relations.ensures
