use Rattle.uca_key_writer.specs.inside.LevelBuffers.{HoldsLevels}
use Rattle.uca_key_writer.proofs.level_buffers.LevelBuffers.write.Given as goal

abbrev pub invariant-loop-element : goal.invariant-loop-element
invariant-loop-element g l = HoldsLevels l.weighting l.yielded l.self
