use Rattle.std.proofs.Common.{length}
use Rattle.uca_comparison.proofs.StoredSteps.{IsLeftOf}
use Rattle.uca_comparison.proofs.stored.difference_level.Given as goal

abbrev pub invariant-loop-level : goal.invariant-loop-level
invariant-loop-level l = IsLeftOf l.levels l.level l.initial.left l.initial.right l.left l.right

abbrev pub decreases-loop-level : goal.decreases-loop-level
decreases-loop-level l = length l.left
