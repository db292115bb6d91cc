-- A line that is rejected.
use Rattle.uca_lines.specs.declared.files.TheConstants.{TABLE_FORM}
use Rattle.uca_table.specs.DataSoFar.{Says, Cause, IsUnfinished, summary}
use Rattle.uca_table.proofs.DataViewed.{refused_view}
use Rattle.uca_table.proofs.data_file.read.read_to_end.Goals as goal

pub returns-in-Err-clause-fault : goal.returns-in-Err-clause-fault
returns-in-Err-clause-fault g c =
    rw c.into.ensures (refused_view TABLE_FORM (λ so_far. summary so_far.started so_far.«data») Says Cause IsUnfinished _ _ _ _ c.in-Err.ensures.fault)
