use Rattle.uca_number_keys.proofs.NumberOrder.{numbers_together}
use Rattle.uca_number_keys.proofs.laws.numbers_stand_together.Goals as goal

pub returns : goal.returns
returns c = numbers_together
