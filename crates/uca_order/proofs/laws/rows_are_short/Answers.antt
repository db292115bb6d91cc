use Rattle.uca_order.proofs.KeyLength.{rows_short}
use Rattle.uca_order.proofs.laws.rows_are_short.Goals as goal

pub returns : goal.returns
returns c = rows_short
