use Rattle.std.proofs.Common.{◌≡◌, take}
use Rattle.uca_values.proofs.packed.unpacked.Given as goal

abbrev pub invariant-loop-at : goal.invariant-loop-at
invariant-loop-at g l = l.rows.items ≡ take l.at l.packed
