use Rattle.std.proofs.Common.{◌≡◌, take}
use Rattle.uca_values.proofs.packed.PackedRows.of_rows.Given as goal

abbrev pub invariant-loop-row : goal.invariant-loop-row
invariant-loop-row g l = l.packed ≡ take l.row-index l.rows
