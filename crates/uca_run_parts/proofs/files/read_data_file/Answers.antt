-- What is read of a data file, or why it is rejected.
use Rattle.std.proofs.Common.{refl}
use Rattle.uca_values.specs.Content.{properties_of}
use Rattle.uca_lines.specs.FileStops.{is_read_kind}
use Rattle.uca_table.specs.DataSoFar as data_files
use Rattle.uca_run_parts.specs.declared.faults.FileFault.TheVariants.{Lines}
use Rattle.uca_run_parts.specs.declared.faults.RunFault.TheVariants.{File}
use Rattle.uca_run_parts.specs.Files.{OfLines}
use Rattle.uca_run_parts.proofs.FilesLemmas.{read_of_role}
use Rattle.uca_run_parts.proofs.ReadFilesLemmas.{file_read, file_rejected}
use Rattle.uca_run_parts.proofs.files.read_data_file.Goals as goal

pub returns-in-Ok : goal.returns-in-Ok
returns-in-Ok g c =
    file_read c.args.role data_files.Means (OfLines data_files.Refuses) c.args.source.now c.read_data.new.source properties_of c.in-Ok.properties
    c.in-Ok.ensures.found c.in-Ok.ensures.only c.in-Ok.ensures.failed

pub returns-in-Err : goal.returns-in-Err
returns-in-Err g c =
    file_rejected c.args.role data_files.Means (OfLines data_files.Refuses) c.args.source.now c.read_data.new.source properties_of
    (File c.args.role (Lines c.in-Err.fault)) c.in-Err.ensures.only (Lines c.in-Err.fault, refl, c.in-Err.ensures.fault)
    (read_of_role c.args.role c.read_data.new.source.failed c.args.source.now.failed (is_read_kind c.in-Err.fault.kind) c.in-Err.ensures.failed)
