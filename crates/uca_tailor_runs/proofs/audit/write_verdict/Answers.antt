-- The verdict is that of the audit, and the line of a rejection is that of its condition.
use Rattle.std.proofs.Common.{◌∙◌, ◌++◌, ◌∷◌, [], true, false, ap, codes, refl}
use Rattle.uca_values.specs.Content.{properties_of}
use Rattle.uca_tailorings.specs.Inputs.{tailoring_of}
use Rattle.uca_run_parts.proofs.Verdicts.{audit_written}
use Rattle.uca_tailor_runs.specs.AuditRun.{tailoring_audit}
use Rattle.uca_tailor_runs.proofs.Refusals.{of_condition}
use Rattle.uca_tailor_runs.proofs.audit.write_verdict.Goals as goal

pub returns-in_default-clause-runs : goal.returns-in_default-clause-runs
returns-in_default-clause-runs g c =
    let files = c.args.files.now in
    audit_written tailoring_audit (tailoring_of files.base (properties_of files.properties) files.rules files.tailored files.certificate)
    c.args.out.now c.end_verdict.new.out true (codes "accepted\n") c.end_verdict.result
    (c.in_default.ensures.accepted, c.in_default.ensures.faithful, refl) c.end_verdict.ensures.verdict

pub returns-clause-runs : goal.returns-clause-runs
returns-clause-runs g c =
    let files = c.args.files.now in
    let tailoring = tailoring_of files.base (properties_of files.properties) files.rules files.tailored files.certificate in
    audit_written tailoring_audit tailoring c.args.out.now c.end_verdict-2.new.out false _ c.end_verdict-2.result (
      c.in-Err.fault,
      of_condition tailoring c.in-Err.fault c.in-Err.ensures.refused c.if-fault-eq-AUDIT_MEMORY.false,
      c.as_bytes.ensures.value ∙ c.as_str.ensures ∙ c.text.ensures ∙ ap (λ text. text ++ 10 ∷ []) c.message.ensures.text,
    ) c.end_verdict-2.ensures.verdict
