-- What is read of a table, or why it is rejected.
use Rattle.std.proofs.Common.{refl}
use Rattle.uca_lines.specs.FileStops.{is_read_kind}
use Rattle.uca_table.specs.TableLines as tables
use Rattle.uca_run_parts.specs.declared.faults.FileFault.TheVariants.{Lines}
use Rattle.uca_run_parts.specs.declared.faults.RunFault.TheVariants.{File}
use Rattle.uca_run_parts.specs.declared.faults.Role.TheVariants as roles
use Rattle.uca_run_parts.specs.Files.{OfLines}
use Rattle.uca_run_parts.proofs.FilesLemmas.{read_of_role}
use Rattle.uca_run_parts.proofs.ReadFilesLemmas.{file_read, file_rejected}
use Rattle.uca_key_runs.proofs.collations.packed_files.read_packed_file.Goals as goal

pub returns-in-Ok : goal.returns-in-Ok
returns-in-Ok g c =
    file_read roles.Table tables.Means (OfLines tables.Refuses) c.args.source.now c.read_packed_table.new.source (λ table. table) c.in-Ok.table
    c.in-Ok.ensures.found c.in-Ok.ensures.only c.in-Ok.ensures.failed

pub returns-in-Err : goal.returns-in-Err
returns-in-Err g c =
    file_rejected roles.Table tables.Means (OfLines tables.Refuses) c.args.source.now c.read_packed_table.new.source (λ table. table)
    (File roles.Table (Lines c.in-Err.fault)) c.in-Err.ensures.only (Lines c.in-Err.fault, refl, c.in-Err.ensures.fault)
    (read_of_role roles.Table c.read_packed_table.new.source.failed c.args.source.now.failed (is_read_kind c.in-Err.fault.kind) c.in-Err.ensures.failed)
