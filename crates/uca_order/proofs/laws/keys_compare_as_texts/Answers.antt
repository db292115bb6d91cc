use Rattle.uca_order.proofs.DepthOrder.{keys_compare_as_texts}
use Rattle.uca_order.proofs.laws.keys_compare_as_texts.Goals as goal

pub returns : goal.returns
returns c = keys_compare_as_texts
