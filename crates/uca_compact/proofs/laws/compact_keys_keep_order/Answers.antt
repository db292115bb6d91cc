use Rattle.uca_compact.proofs.TextOrder.{keys_keep_order}
use Rattle.uca_compact.proofs.laws.compact_keys_keep_order.Goals as goal

pub returns : goal.returns
returns c = keys_keep_order
