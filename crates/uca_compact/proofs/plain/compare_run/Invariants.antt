use Rattle.std.proofs.Common.{◌≡◌, drop}
use Rattle.uca_order.specs.Levels.{lexicographic}
use Rattle.uca_compact.specs.PlainLevels.{copies}
use Rattle.uca_compact.proofs.plain.compare_run.Given as goal

abbrev pub invariant-loop-found : goal.invariant-loop-found
invariant-loop-found l = lexicographic (drop l.found-index l.level) (copies l.weight l.left) ≡ lexicographic l.level (copies l.weight l.count)
