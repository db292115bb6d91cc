-- The prover finds this goal by this tactic alone. What it tries before takes long.
use Rattle.std.proofs.Common.{arith}
use Rattle.std.proofs.lemmas.Grind.{common_steps}
use Rattle.uca_key_writer.proofs.level_buffers.LevelBuffers.push_points.Goals as goal

pub loop-point-preserved : goal.loop-point-preserved
loop-point-preserved g c = record { bytes = grind (arith, common_steps); room = c.loop-point.invariant.room }
