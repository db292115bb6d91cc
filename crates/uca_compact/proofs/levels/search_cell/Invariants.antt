use Rattle.std.proofs.Common.{◌≤◌, ◌<◌, ◌-◌, length}
use Rattle.uca_compact.specs.inside.Places.{start_at, end_at}
use Rattle.uca_compact.proofs.levels.search_cell.Given as goal

abbrev pub invariant-loop-low : goal.invariant-loop-low
invariant-loop-low l = (l.low ≤ l.high) × (l.high ≤ length l.later) × (start_at l.start l.later l.low ≤ l.weight) × (l.weight < end_at l.later l.end l.high)

abbrev pub decreases-loop-low : goal.decreases-loop-low
decreases-loop-low l = l.high - l.low
