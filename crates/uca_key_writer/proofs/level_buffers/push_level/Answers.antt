-- A must-fail edit turns this goal. With a proof in a file it is rejected at once (docs/GATE.md).
use Rattle.std.proofs.Common.{arith}
use Rattle.std.proofs.lemmas.Grind.{common_steps}
use Rattle.uca_key_writer.proofs.level_buffers.push_level.Goals as goal

pub returns : goal.returns
returns g c = grind (arith, common_steps)
