-- A line that is rejected is rejected by the parser.
use Rattle.uca_lines.specs.declared.files.TheConstants.{TABLE_FORM}
use Rattle.uca_table.specs.DataSoFar.{Said, Says, Cause, IsUnfinished, summary}
use Rattle.uca_table.proofs.DataViewed.{refused_view}
use Rattle.uca_fingerprint_runs.proofs.SummedLines.{refuses_known}
use Rattle.uca_fingerprint_runs.proofs.summed_files.reading.read_data_to_end.Goals as goal

pub returns-in-Err-clause-fault : goal.returns-in-Err-clause-fault
returns-in-Err-clause-fault g c =
    rw c.into.ensures (refused_view TABLE_FORM (λ (s : Said). s) Says Cause IsUnfinished _ _ _ _
    (refuses_known TABLE_FORM (λ s. summary s.parser.started s.parser.«data») (λ s. s.hasher) Says Cause _ _ _ _ c.in-Err.ensures.fault))
