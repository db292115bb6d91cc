-- What a run of audit-changes returns and writes for what its files mean.
use Rattle.std.specs.Prelude.{List, Bool, Result}
use Rattle.uca_weights.specs.Streams.{SourceState, SinkState}
use Rattle.uca_changes.specs.Changes.{Change, IsAcceptedChange}
use Rattle.uca_changes.specs.declared.faults.ChangeFault.{ChangeFault}
use Rattle.uca_editions.specs.ChangeInputs.{MeansUnaffectedTextsStay}
use Rattle.uca_editions.specs.ChangeRefusals.{IsFirstRefusal}
use Rattle.uca_run_parts.specs.declared.faults.RunFault.{RunFault}
use Rattle.uca_run_parts.specs.ChangeFaultText.{change_verdict_text}
use Rattle.uca_run_parts.specs.Verdicts.{Audit, AuditsFiles}
use Rattle.uca_change_runs.specs.ChangeFiles.{change_files, change_roles}

-- The audit of a change: an accepted one leaves unaffected texts as they are, and else the error is the first condition that
-- is not met, and where.
abbrev pub change_audit : Audit Change ChangeFault
change_audit = record {
  files = change_files;
  file_roles = change_roles;
  accepts = IsAcceptedChange;
  promises = MeansUnaffectedTextsStay;
  refuses = IsFirstRefusal;
  text = change_verdict_text;
}

-- A run of audit-changes.
abbrev pub AuditsChanges : List SourceState → List SourceState → SinkState → SinkState → Result Bool RunFault → Type 0
AuditsChanges olds news out out_new result = AuditsFiles change_audit olds news out out_new result
