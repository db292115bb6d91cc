-- The whole text is its longest key.
use Rattle.uca_elements.proofs.ReadingLemmas.{key_reads_as_row}
use Rattle.uca_elements.proofs.laws.keys_read_as_rows.Goals as goal

pub returns : goal.returns
returns c = key_reads_as_row
