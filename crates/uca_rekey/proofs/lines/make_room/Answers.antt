-- The buffer does not become shorter, and the part stays at its front.
use Rattle.std.proofs.Common.{arith}
use Rattle.std.proofs.lemmas.Grind.{common_steps}
use Rattle.uca_rekey.proofs.lines.make_room.Goals as goal

pub overflow_mul-len : goal.overflow_mul-len
overflow_mul-len g c = omega arith

pub overflow_add-min : goal.overflow_add-min
overflow_add-min g c = omega arith

pub returns-clause-front : goal.returns-clause-front
returns-clause-front g c = grind (arith, common_steps)

pub returns-clause-len : goal.returns-clause-len
returns-clause-len g c = grind (arith, common_steps)

pub returns-clause-room : goal.returns-clause-room
returns-clause-room g c = grind (arith, common_steps)

pub returns-clause-full : goal.returns-clause-full
returns-clause-full g c = grind (arith, common_steps)
