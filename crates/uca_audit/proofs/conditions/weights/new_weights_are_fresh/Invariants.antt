-- The relations so far are fresh.
use Rattle.uca_tailorings.specs.Tailorings.{IsFresh}
use Rattle.uca_audit.specs.inside.Views.{tailoring_in}
use Rattle.uca_audit.proofs.Passes.{AllBelow}
use Rattle.uca_audit.proofs.conditions.weights.new_weights_are_fresh.Given as goal

abbrev pub invariant-loop-at : goal.invariant-loop-at
invariant-loop-at g l = let tailoring = tailoring_in l.inputs in AllBelow (IsFresh tailoring) tailoring.relations l.at
