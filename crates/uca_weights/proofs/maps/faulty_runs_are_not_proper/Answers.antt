-- The first run that is rejected is not proper, or the last condition fails.
use Rattle.uca_weights.proofs.RunMaps.{faulty_not_proper}
use Rattle.uca_weights.proofs.maps.faulty_runs_are_not_proper.Goals as goal

pub returns : goal.returns
returns c = faulty_not_proper
