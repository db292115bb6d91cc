use Rattle.uca_order.proofs.WeightLemmas.{streamed}
use Rattle.uca_order.proofs.laws.weights_may_be_streamed.Goals as goal

pub returns : goal.returns
returns c = streamed
