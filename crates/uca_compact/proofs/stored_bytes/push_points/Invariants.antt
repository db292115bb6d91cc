use Rattle.std.proofs.Common.{◌≡◌, ◌++◌}
use Rattle.uca_order.specs.Depths.{points_bytes}
use Rattle.uca_compact.proofs.stored_bytes.push_points.Given as goal

abbrev pub invariant-loop-point : goal.invariant-loop-point
invariant-loop-point g l = l.key.items ≡ l.fn.key.items ++ points_bytes l.yielded
