use Rattle.uca_order.proofs.StoredOrder.{stored_keys_compare}
use Rattle.uca_order.proofs.laws.stored_keys_compare_as_elements.Goals as goal

pub returns : goal.returns
returns c = stored_keys_compare
