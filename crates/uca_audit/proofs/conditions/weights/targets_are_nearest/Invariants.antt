-- The relations so far are nearest, and the set has their new weights.
use Rattle.std.proofs.Common.{take}
use Rattle.uca_tailorings.specs.Tailorings.{IsNearest}
use Rattle.uca_audit.specs.inside.Views.{tailoring_in}
use Rattle.uca_audit.specs.inside.NewWeights.{HoldsKnownAndNew}
use Rattle.uca_audit.proofs.Passes.{AllBelow}
use Rattle.uca_audit.proofs.conditions.weights.targets_are_nearest.Given as goal

abbrev pub invariant-loop-at : goal.invariant-loop-at
invariant-loop-at g l =
    let tailoring = tailoring_in l.inputs in
    HoldsKnownAndNew tailoring (take l.at tailoring.relations) l.known × AllBelow (IsNearest tailoring) tailoring.relations l.at
