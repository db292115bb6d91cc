use Rattle.std.proofs.Common.{◌≡◌, drop}
use Rattle.uca_elements.specs.Rows.{rows_of}
use Rattle.uca_match.proofs.row_list.RowListLookup.elements.Given as goal

abbrev pub invariant-loop-row : goal.invariant-loop-row
invariant-loop-row g l = rows_of (drop l.row-index l.self.rows.now) l.key ≡ rows_of l.self.rows.now l.key
