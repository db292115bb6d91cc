-- Base weights are those of the elements.
use Rattle.uca_plans.proofs.BaseWeightLemmas.{are_base_weights}
use Rattle.uca_plans.proofs.laws.base_weights_of_elements.Goals as goal

pub returns : goal.returns
returns c = are_base_weights
