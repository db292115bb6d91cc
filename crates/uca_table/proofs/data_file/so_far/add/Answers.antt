-- The range is added or rejected, by its kind.
use Rattle.std.proofs.Common.{arith}
use Rattle.std.proofs.lemmas.Grind.{common_steps}
use Rattle.uca_table.proofs.data_file.so_far.add.Goals as goal

pub returns-in-Ok-clause-ok : goal.returns-in-Ok-clause-ok
returns-in-Ok-clause-ok g c = grind (arith, common_steps)

pub returns-in-Err-Empty-clause-err : goal.returns-in-Err-Empty-clause-err
returns-in-Err-Empty-clause-err g c = grind (arith, common_steps)

pub returns-in-Err-Limit-clause-err : goal.returns-in-Err-Limit-clause-err
returns-in-Err-Limit-clause-err g c = grind (arith, common_steps)

pub returns-in-Err-Memory-clause-err : goal.returns-in-Err-Memory-clause-err
returns-in-Err-Memory-clause-err g c = grind (arith, common_steps)
