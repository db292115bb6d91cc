-- By the law of stored keys.
use Rattle.uca_owned.proofs.OrderLemmas.{orders_total}
use Rattle.uca_owned.proofs.laws.orders_are_total.Goals as goal

pub returns : goal.returns
returns c = orders_total c.stored_keys_compare_as_texts.ensures
