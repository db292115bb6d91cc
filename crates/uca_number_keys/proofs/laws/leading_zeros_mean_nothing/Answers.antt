use Rattle.uca_number_keys.proofs.NumberOrder.{leading_zeros}
use Rattle.uca_number_keys.proofs.laws.leading_zeros_mean_nothing.Goals as goal

pub returns : goal.returns
returns c = leading_zeros
