-- What is read of a table and its sum, or why it is rejected.
use Rattle.std.proofs.Common.{refl}
use Rattle.uca_lines.specs.FileStops.{is_read_kind}
use Rattle.uca_table.specs.TableLines as tables
use Rattle.uca_run_parts.specs.declared.faults.FileFault.TheVariants.{Lines}
use Rattle.uca_run_parts.specs.declared.faults.RunFault.TheVariants.{File}
use Rattle.uca_run_parts.specs.declared.faults.Role.TheVariants as roles
use Rattle.uca_run_parts.specs.Files.{OfLines}
use Rattle.uca_run_parts.proofs.FilesLemmas.{read_of_role}
use Rattle.uca_run_parts.proofs.ReadFilesLemmas.{file_read, file_rejected}
use Rattle.uca_fingerprint_runs.specs.Sums.{MeansSummed}
use Rattle.uca_fingerprint_runs.proofs.SummedMeanings.{means_summed, only_summed, whatever_summed}
use Rattle.uca_fingerprint_runs.proofs.summed_files.read_table.Goals as goal

pub returns-in-Ok : goal.returns-in-Ok
returns-in-Ok g c =
    file_read roles.Table (MeansSummed tables.Means) (OfLines tables.Refuses) c.args.source.now c.read_summed_table.new.source (λ read. (read.0, read.1)) c.in-Ok.read
    (means_summed tables.Means _ c.in-Ok.read.0 c.in-Ok.read.1 c.in-Ok.ensures.found c.in-Ok.ensures.sum)
    (only_summed tables.Means _ c.in-Ok.read.0 c.in-Ok.read.1 c.in-Ok.ensures.only c.in-Ok.ensures.sum) c.in-Ok.ensures.failed

pub returns-in-Err : goal.returns-in-Err
returns-in-Err g c =
    file_rejected roles.Table (MeansSummed tables.Means) (OfLines tables.Refuses) c.args.source.now c.read_summed_table.new.source (λ read. (read.0, read.1))
    (File roles.Table (Lines c.in-Err.fault)) (whatever_summed tables.Means _ _ c.in-Err.ensures.only) (Lines c.in-Err.fault, refl, c.in-Err.ensures.fault)
    (read_of_role roles.Table c.read_summed_table.new.source.failed c.args.source.now.failed (is_read_kind c.in-Err.fault.kind) c.in-Err.ensures.failed)
