-- New weights take positions.
use Rattle.uca_plans.proofs.InsertionLemmas.{takes_one_place}
use Rattle.uca_plans.proofs.laws.new_weights_take_places.Goals as goal

pub returns : goal.returns
returns c = takes_one_place
