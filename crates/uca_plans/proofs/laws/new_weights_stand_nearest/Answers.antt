-- New weights are next to their anchors'.
use Rattle.uca_plans.proofs.InsertionLemmas.{stands_nearest}
use Rattle.uca_plans.proofs.laws.new_weights_stand_nearest.Goals as goal

pub returns : goal.returns
returns c = stands_nearest
