-- Proper runs lie one above the other on both sides.
use Rattle.uca_weights.proofs.RunMaps.{IsRisingMap-runs}
use Rattle.uca_weights.proofs.maps.proper_runs_rise.Goals as goal

pub returns : goal.returns
returns c = IsRisingMap-runs
