-- What is read of a file of changes, or why it is rejected.
use Rattle.std.proofs.Common.{refl}
use Rattle.uca_change_files.specs.ChangeTexts as changes
use Rattle.uca_run_parts.specs.declared.faults.FileFault.TheVariants.{Lines}
use Rattle.uca_run_parts.specs.declared.faults.RunFault.TheVariants.{File}
use Rattle.uca_run_parts.specs.declared.faults.Role.TheVariants as roles
use Rattle.uca_run_parts.specs.Files.{OfLines}
use Rattle.uca_run_parts.proofs.ReadFilesLemmas.{file_read, file_rejected}
use Rattle.uca_change_runs.proofs.files.read_changes_file.Goals as goal

pub returns-in-Ok : goal.returns-in-Ok
returns-in-Ok g c =
    file_read roles.Changes changes.Means (OfLines changes.Refuses) c.args.source.now c.read_changes.new.source (λ list. list) c.in-Ok.list
    c.in-Ok.ensures.found c.in-Ok.ensures.only c.in-Ok.ensures.failed

pub returns-in-Err : goal.returns-in-Err
returns-in-Err g c =
    file_rejected roles.Changes changes.Means (OfLines changes.Refuses) c.args.source.now c.read_changes.new.source (λ list. list)
    (File roles.Changes (Lines c.in-Err.fault)) c.in-Err.ensures.only (Lines c.in-Err.fault, refl, c.in-Err.ensures.fault) c.in-Err.ensures.failed
