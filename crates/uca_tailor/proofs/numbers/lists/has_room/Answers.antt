-- A must-fail edit turns this goal. With a proof in a file it is rejected at once (docs/GATE.md).
use Rattle.std.proofs.Common.{arith}
use Rattle.std.proofs.lemmas.Grind.{common_steps}
use Rattle.uca_tailor.proofs.numbers.lists.has_room.Goals as goal

pub returns : goal.returns
returns c = grind (arith, common_steps)
