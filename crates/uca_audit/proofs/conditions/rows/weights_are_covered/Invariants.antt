-- The rows so far are covered.
use Rattle.std.proofs.Common.{take}
use Rattle.std.specs.List.{AllByRecursion}
use Rattle.uca_tailorings.specs.Tailorings.{IsCoveredRow}
use Rattle.uca_audit.specs.inside.Views.{tailoring_in}
use Rattle.uca_audit.proofs.conditions.rows.weights_are_covered.Given as goal

abbrev pub invariant-loop-at : goal.invariant-loop-at
invariant-loop-at g l = let t = tailoring_in l.inputs in AllByRecursion (IsCoveredRow t) (take l.at t.base.rows)
