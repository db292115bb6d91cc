-- Bytes mean one data file at most, and none if they have an error.
use Rattle.std.proofs.Common.{ℕ, List}
use Rattle.uca_lines.proofs.FileLemmas.{only_known}
use Rattle.uca_lines.specs.declared.files.TheConstants.{TABLE_FORM}
use Rattle.uca_values.specs.declared.faults.TableFault.{TableFault}
use Rattle.uca_values.specs.Content.{DataContent, properties_of}
use Rattle.uca_table.specs.DataSoFar.{Says, Cause, IsUnfinished, Gives}
use Rattle.uca_table.proofs.DataMeanings.{exact, gives_one, gives_finished}
use Rattle.uca_fingerprint_runs.proofs.summed_files.reading.read_summed_data.Goals as goal

pub returns-clause-only : goal.returns-clause-only
returns-clause-only g c =
    only_known {X = DataContent × List ℕ} {F = TableFault} (λ read. properties_of read.0) (λ fault. fault.line) (λ fault. fault.kind) TABLE_FORM Says Cause
    IsUnfinished Gives exact gives_one gives_finished _ _ c.read_data_to_end.result c.read_data_to_end.ensures.found c.read_data_to_end.ensures.fault
