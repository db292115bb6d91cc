-- The whole run, from what its five files mean and what is written of them.
use Rattle.std.proofs.Common.{[], ◌∷◌}
use Rattle.uca_audit.proofs.NotAccepted.{refused_not_accepted}
use Rattle.uca_run_parts.proofs.Verdicts.{audits}
use Rattle.uca_tailor_runs.specs.AuditRun.{tailoring_audit}
use Rattle.uca_tailor_runs.proofs.audit.run_audit_in.Goals as goal

pub returns : goal.returns
returns g c =
    let new = c.read_audit_files-files.new in
    let olds = c.args.base.now ∷ c.args.properties.now ∷ c.args.rules.now ∷ c.args.tailored.now ∷ c.args.certificate.now ∷ [] in
    let news = new.base ∷ new.properties ∷ new.rules ∷ new.tailored ∷ new.certificate ∷ [] in
    audits tailoring_audit refused_not_accepted olds news c.args.out.now c.audit_read.new.out _ c.read_audit_files-files.result c.audit_read.result
    c.read_audit_files-files.ensures c.audit_read.ensures.runs c.audit_read.ensures.failed
