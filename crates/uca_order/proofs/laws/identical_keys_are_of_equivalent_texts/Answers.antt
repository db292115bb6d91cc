use Rattle.uca_order.proofs.DepthOrder.{identical_texts}
use Rattle.uca_order.proofs.laws.identical_keys_are_of_equivalent_texts.Goals as goal

pub returns : goal.returns
returns c = identical_texts
