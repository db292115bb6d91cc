use Rattle.std.proofs.Common.{◌≡◌}
use Rattle.uca_numbers.proofs.written_text.list_points.Given as goal

abbrev pub invariant-loop-point : goal.invariant-loop-point
invariant-loop-point l = l.points.items ≡ l.yielded
