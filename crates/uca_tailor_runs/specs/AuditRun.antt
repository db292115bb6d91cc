-- What a run of audit returns and writes for what its files mean.
use Rattle.std.specs.Prelude.{List, Bool, Result}
use Rattle.uca_weights.specs.Streams.{SourceState, SinkState}
use Rattle.uca_tailorings.specs.Tailorings.{Tailoring, IsAccepted}
use Rattle.uca_tailorings.specs.Meaning.{IsFaithful}
use Rattle.uca_audit.specs.declared.faults.AuditFault.{AuditFault}
use Rattle.uca_audit.specs.Refusals.{IsFirstRefusal}
use Rattle.uca_audit.specs.FaultText.{audit_fault_text}
use Rattle.uca_run_parts.specs.declared.faults.RunFault.{RunFault}
use Rattle.uca_run_parts.specs.Files.{audit_files, audit_roles}
use Rattle.uca_run_parts.specs.Verdicts.{Audit, AuditsFiles}

-- The audit of a tailoring: an accepted one is faithful, and else the error is the first condition that fails, and where.
abbrev pub tailoring_audit : Audit Tailoring AuditFault
tailoring_audit = record {
  files = audit_files;
  file_roles = audit_roles;
  accepts = IsAccepted;
  promises = IsFaithful;
  refuses = IsFirstRefusal;
  text = audit_fault_text;
}

-- A run of audit.
abbrev pub Audits : List SourceState → List SourceState → SinkState → SinkState → Result Bool RunFault → Type 0
Audits olds news out out_new result = AuditsFiles tailoring_audit olds news out out_new result
