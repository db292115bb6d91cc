-- The runs of every map are proper.
use Rattle.std.proofs.Common.{subst}
use Rattle.uca_weights.specs.Maps.{IsRisingMap}
use Rattle.uca_weights.specs.Runs.{MapContent, weight_image}
use Rattle.uca_weights.proofs.RunMaps.{IsRisingMap-runs}
use Rattle.uca_weights.proofs.maps.WeightMap.runs.Goals as goal

pub returns-clause-rising : goal.returns-clause-rising
returns-clause-rising g c =
    subst (λ (map : MapContent). IsRisingMap map.level (weight_image map.level map.runs)) c.self.view_is (IsRisingMap-runs _ _ c.self.invariant)
