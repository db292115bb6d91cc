-- The weights so far were written.
use Rattle.std.proofs.Common.{◌≡◌, ◌+◌, ◌*◌, ◌++◌, length, take}
use Rattle.uca_order.specs.Levels.{level_bytes}
use Rattle.uca_compact.proofs.stored_bytes.put_weights.Given as goal

abbrev pub invariant-loop-number : goal.invariant-loop-number
invariant-loop-number l = record {
  long : length l.bytes ≡ l.start + 2 * length l.weights;
  written : take (l.start + 2 * l.number) l.bytes ≡ take l.start l.fn.bytes ++ level_bytes (take l.number l.weights);
}
