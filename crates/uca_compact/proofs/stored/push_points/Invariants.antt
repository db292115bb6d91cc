use Rattle.std.proofs.Common.{◌≡◌, ◌≤◌, ◌-◌, length, drop}
use Rattle.uca_compact.specs.StoredParts.{stored_points}
use Rattle.uca_compact.specs.inside.StoredEnds.{with_points}
use Rattle.uca_compact.proofs.stored.push_points.Given as goal

abbrev pub invariant-loop-at : goal.invariant-loop-at
invariant-loop-at g l =
    (l.at ≤ length l.bytes) × (with_points l.out.items (stored_points (drop l.at l.bytes)) ≡ with_points l.fn.out.items (stored_points l.bytes))

abbrev pub decreases-loop-at : goal.decreases-loop-at
decreases-loop-at g l = length l.bytes - l.at
