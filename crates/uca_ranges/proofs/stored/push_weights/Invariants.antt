use Rattle.std.proofs.Common.{◌≡◌, ◌++◌, drop}
use Rattle.uca_order.specs.Levels.{level_bytes}
use Rattle.uca_ranges.proofs.stored.push_weights.Given as goal

abbrev pub invariant-loop-weight : goal.invariant-loop-weight
invariant-loop-weight g l = l.out.items ++ level_bytes (drop l.weight-index l.weights) ≡ l.fn.out.items ++ level_bytes l.weights
