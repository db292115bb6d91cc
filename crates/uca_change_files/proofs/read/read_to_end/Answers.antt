use Rattle.std.proofs.Common.{arith}
use Rattle.std.proofs.lemmas.Grind.{common_steps}
use Rattle.uca_lines.specs.declared.files.TheConstants.{TABLE_FORM}
use Rattle.uca_table.proofs.DataViewed.{refused_view}
use Rattle.uca_change_files.specs.ChangeTexts.{Says, Cause, IsUnfinished}
use Rattle.uca_change_files.proofs.read.read_to_end.Goals as goal

pub returns-in-Err-clause-fault : goal.returns-in-Err-clause-fault
returns-in-Err-clause-fault g c =
    rw c.from.ensures (refused_view TABLE_FORM (λ so_far. record { started = so_far.started; content = so_far.list }) Says Cause IsUnfinished _ _ _ _ c.in-Err.ensures.fault)

pub overflow_add-result : goal.overflow_add-result
overflow_add-result g c = grind (arith, common_steps)

pub returns-else-so_far-clause-fault : goal.returns-else-so_far-clause-fault
returns-else-so_far-clause-fault g c = grind (arith, common_steps)
