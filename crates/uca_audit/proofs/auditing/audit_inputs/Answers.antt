use Rattle.uca_audit.specs.inside.Views.{tailoring_in}
use Rattle.uca_audit.proofs.Chaining.{passes_failed}
use Rattle.uca_audit.proofs.auditing.audit_inputs.Goals as goal

pub returns-in_err-audit_tables : goal.returns-in_err-audit_tables
returns-in_err-audit_tables g c =
    passes_failed (tailoring_in c.args.inputs.now) 12 _ _ c.from_residual.ensures.1 c.in_err-audit_tables.ensures

pub audit_images-requires : goal.audit_images-requires
audit_images-requires g c =
    record { images = c.in_ok-images.ensures; met = c.in_ok-audit_tables.ensures }

pub returns : goal.returns
returns g c =
    c.audit_images.ensures
