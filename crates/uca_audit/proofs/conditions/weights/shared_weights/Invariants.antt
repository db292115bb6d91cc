-- The sets have the weights that are new once, and twice, so far.
use Rattle.std.proofs.Common.{take}
use Rattle.uca_audit.specs.inside.NewWeights.{HoldsNew}
use Rattle.uca_audit.proofs.conditions.weights.shared_weights.Given as goal

abbrev pub invariant-loop-placement : goal.invariant-loop-placement
invariant-loop-placement g l = HoldsNew 1 (take l.placement-index l.placements) l.seen × HoldsNew 2 (take l.placement-index l.placements) l.shared
