-- What is read of a data file and its sum, or why it is rejected.
use Rattle.std.proofs.Common.{refl}
use Rattle.uca_values.specs.Content.{properties_of}
use Rattle.uca_lines.specs.FileStops.{is_read_kind}
use Rattle.uca_table.specs.DataSoFar as data_files
use Rattle.uca_run_parts.specs.declared.faults.FileFault.TheVariants.{Lines}
use Rattle.uca_run_parts.specs.declared.faults.RunFault.TheVariants.{File}
use Rattle.uca_run_parts.specs.declared.faults.Role.TheVariants as roles
use Rattle.uca_run_parts.specs.Files.{OfLines}
use Rattle.uca_run_parts.proofs.FilesLemmas.{read_of_role}
use Rattle.uca_run_parts.proofs.ReadFilesLemmas.{file_read, file_rejected}
use Rattle.uca_fingerprint_runs.specs.Sums.{MeansSummed}
use Rattle.uca_fingerprint_runs.proofs.SummedMeanings.{means_summed, only_summed, whatever_summed}
use Rattle.uca_fingerprint_runs.proofs.summed_files.read_data.Goals as goal

pub returns-in-Ok : goal.returns-in-Ok
returns-in-Ok g c =
    file_read roles.Data (MeansSummed data_files.Means) (OfLines data_files.Refuses) c.args.source.now c.read_summed_data.new.source (λ read. (properties_of read.0, read.1)) c.in-Ok.read
    (means_summed data_files.Means _ (properties_of c.in-Ok.read.0) c.in-Ok.read.1 c.in-Ok.ensures.found c.in-Ok.ensures.sum)
    (only_summed data_files.Means _ (properties_of c.in-Ok.read.0) c.in-Ok.read.1 c.in-Ok.ensures.only c.in-Ok.ensures.sum) c.in-Ok.ensures.failed

pub returns-in-Err : goal.returns-in-Err
returns-in-Err g c =
    file_rejected roles.Data (MeansSummed data_files.Means) (OfLines data_files.Refuses) c.args.source.now c.read_summed_data.new.source (λ read. (properties_of read.0, read.1))
    (File roles.Data (Lines c.in-Err.fault)) (whatever_summed data_files.Means _ _ c.in-Err.ensures.only) (Lines c.in-Err.fault, refl, c.in-Err.ensures.fault)
    (read_of_role roles.Data c.read_summed_data.new.source.failed c.args.source.now.failed (is_read_kind c.in-Err.fault.kind) c.in-Err.ensures.failed)
