-- The code points from a position on are others.
use Rattle.std.proofs.Common.{◌≢◌, ℕ, ◌<◌, ◌≤◌, length, get_or}
use Rattle.uca_editions.proofs.searches.is_among.Given as goal

abbrev pub invariant-loop-at : goal.invariant-loop-at
invariant-loop-at l = record {
  within : l.at ≤ length l.points;
  none : (k : ℕ) → l.at ≤ k → k < length l.points → get_or l.points k l.point ≢ l.point;
}

abbrev pub decreases-loop-at : goal.decreases-loop-at
decreases-loop-at l = l.at
