use Rattle.std.proofs.Common.{◌≡◌, ◌++◌}
use Rattle.uca_order.specs.Levels.{level_bytes}
use Rattle.uca_compact.specs.PlainLevels.{copies}
use Rattle.uca_ranges.proofs.plain.push_copies.Given as goal

abbrev pub invariant-loop-left : goal.invariant-loop-left
invariant-loop-left g l = l.out.items ++ level_bytes (copies l.weight l.left) ≡ l.fn.out.items ++ level_bytes (copies l.weight l.count)

abbrev pub decreases-loop-left : goal.decreases-loop-left
decreases-loop-left g l = l.left
