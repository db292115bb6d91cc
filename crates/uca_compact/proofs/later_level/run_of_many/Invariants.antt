-- The weights so far are this one.
use Rattle.std.proofs.Common.{◌≡◌, ℕ, ◌+◌, ◌-◌, ◌*◌, ◌<◌, ◌≤◌, length}
use Rattle.uca_lanes.specs.Pairs.{pair_at}
use Rattle.uca_compact.proofs.later_level.run_of_many.Given as goal

abbrev pub invariant-loop-weight : goal.invariant-loop-weight
invariant-loop-weight l = record {
  within : 2 * l.run ≤ length l.level;
  are : (k : ℕ) → k < l.run → pair_at l.level (0 + 2 * k) ≡ l.weight;
}

abbrev pub decreases-loop-weight : goal.decreases-loop-weight
decreases-loop-weight l = length l.level - 2 * l.run
