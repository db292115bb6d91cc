use Rattle.uca_order.proofs.DepthOrder.{stored_texts_compare}
use Rattle.uca_order.proofs.laws.stored_keys_compare_as_texts.Goals as goal

pub returns : goal.returns
returns c = stored_texts_compare
