use Rattle.uca_order.proofs.WeightLemmas.{finds}
use Rattle.uca_order.proofs.laws.finds_completely_ignorable.Goals as goal

pub returns : goal.returns
returns c = finds
