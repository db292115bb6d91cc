-- `read` satisfies the equations, and is the only function that does.
use Rattle.uca_elements.proofs.ReadingLemmas.{IsReading-read, read_unique}
use Rattle.uca_elements.proofs.laws.one_reading.Goals as goal

pub returns : goal.returns
returns c implicit rows = (IsReading-read implicit rows, read_unique implicit rows)
