-- What `rows_of` finds at a key is the row that has it.
use Rattle.uca_elements.proofs.RowsByKey.{key_iff, rows_by_key}
use Rattle.uca_elements.proofs.laws.rows_by_key.Goals as goal

pub returns : goal.returns
returns c rows = record { keys = key_iff rows; elements = rows_by_key rows }
