use Rattle.uca_order.proofs.KeyOrder.{keys_compare}
use Rattle.uca_order.proofs.laws.keys_compare_as_elements.Goals as goal

pub returns : goal.returns
returns c = keys_compare
