use Rattle.std.proofs.Common.{◌≡◌}
use Rattle.uca_audit.proofs.readings.read_elements.Given as goal

abbrev pub invariant-loop-element : goal.invariant-loop-element
invariant-loop-element g l = l.elements.items ≡ l.yielded
