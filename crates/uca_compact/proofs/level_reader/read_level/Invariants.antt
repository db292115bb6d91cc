use Rattle.std.proofs.Common.{length}
use Rattle.uca_compact.specs.Programs.{form_of}
use Rattle.uca_compact.proofs.LevelSteps.{IsUnderWay}
use Rattle.uca_compact.proofs.level_reader.read_level.Given as goal

abbrev pub invariant-loop-after : goal.invariant-loop-after
invariant-loop-after g l = IsUnderWay (form_of l.form) l.bytes l.weights.items l.rest

abbrev pub decreases-loop-after : goal.decreases-loop-after
decreases-loop-after g l = length l.rest
