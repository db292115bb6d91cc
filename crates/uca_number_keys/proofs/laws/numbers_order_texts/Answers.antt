use Rattle.uca_number_keys.proofs.NumberOrder.{numbers_order}
use Rattle.uca_number_keys.proofs.laws.numbers_order_texts.Goals as goal

pub returns : goal.returns
returns c = numbers_order
