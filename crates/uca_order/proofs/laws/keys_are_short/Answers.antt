use Rattle.uca_order.proofs.KeyLength.{keys_short}
use Rattle.uca_order.proofs.laws.keys_are_short.Goals as goal

pub returns : goal.returns
returns c = keys_short
