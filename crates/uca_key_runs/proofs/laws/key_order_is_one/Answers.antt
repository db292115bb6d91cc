use Rattle.uca_key_runs.proofs.OneOrder.{key_order_is_one}
use Rattle.uca_key_runs.proofs.laws.key_order_is_one.Goals as goal

pub returns : goal.returns
returns c = key_order_is_one
