-- No code point decomposes to a digit but a digit.
use Rattle.uca_digits.proofs.NfdNumbers.{texts_stay}
use Rattle.uca_digits.proofs.texts_without_digits_stay.Goals as goal

pub returns : goal.returns
returns c = texts_stay
