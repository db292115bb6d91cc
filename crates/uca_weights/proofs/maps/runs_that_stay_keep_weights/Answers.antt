-- A weight of a run that stays is its own image.
use Rattle.uca_weights.proofs.RunMaps.{runs_stay}
use Rattle.uca_weights.proofs.maps.runs_that_stay_keep_weights.Goals as goal

pub returns : goal.returns
returns c = runs_stay
