-- Bytes mean one table at most, and none if they have an error.
use Rattle.std.proofs.Common.{ℕ, List}
use Rattle.uca_lines.proofs.FileLemmas.{only_known}
use Rattle.uca_lines.specs.declared.files.TheConstants.{TABLE_FORM}
use Rattle.uca_values.specs.declared.faults.TableFault.{TableFault}
use Rattle.uca_values.specs.Content.{TableContent}
use Rattle.uca_table.specs.TableLines.{Says, Cause, IsUnfinished, Gives}
use Rattle.uca_table.proofs.TableMeanings.{exact, gives_one, gives_finished}
use Rattle.uca_fingerprint_runs.proofs.summed_files.reading.read_summed_table.Goals as goal

pub returns-clause-only : goal.returns-clause-only
returns-clause-only g c =
    only_known {X = TableContent × List ℕ} {F = TableFault} (λ read. read.0) (λ fault. fault.line) (λ fault. fault.kind) TABLE_FORM Says Cause IsUnfinished
    Gives exact gives_one gives_finished _ _ c.read_table_to_end.result c.read_table_to_end.ensures.found c.read_table_to_end.ensures.fault
