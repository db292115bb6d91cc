-- Each code point of a text by value decomposes, and is put in order, as in the text.
use Rattle.uca_digits.proofs.NfdNumbers.{written_first}
use Rattle.uca_digits.proofs.numbers_may_be_written_first.Goals as goal

pub returns : goal.returns
returns c = written_first
