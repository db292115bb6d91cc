-- A line that is rejected is rejected by the parser.
use Rattle.uca_values.specs.declared.faults.FaultKind.{FaultKind}
use Rattle.uca_lines.specs.declared.files.TheConstants.{TABLE_FORM}
use Rattle.uca_table.specs.TableSoFar.{TableSoFar}
use Rattle.uca_table.specs.TableLines.{Says, Cause}
use Rattle.uca_table.proofs.ReadLaws.{refused_line}
use Rattle.uca_fingerprint_runs.specs.declared.summed_files.summed.Summed.{Summed}
use Rattle.uca_fingerprint_runs.proofs.SummedLines.{refuses_known}
use Rattle.uca_fingerprint_runs.proofs.summed_files.reading.read_table_to_end.Goals as goal

pub returns-in-Err-clause-fault : goal.returns-in-Err-clause-fault
returns-in-Err-clause-fault g c =
    rw c.into.ensures (refused_line _ _ _ _ (refuses_known {S = Summed TableSoFar FaultKind} TABLE_FORM (λ s. s.parser) (λ s. s.hasher) Says Cause _ _ _ _ c.in-Err.ensures.fault))
