use Rattle.std.proofs.Common.{take}
use Rattle.std.specs.List.{AllByRecursion}
use Rattle.uca_tailorings.specs.Tailorings.{IsPresentTarget}
use Rattle.uca_audit.specs.inside.Views.{tailoring_in}
use Rattle.uca_audit.proofs.conditions.rows.first_missing_target.Given as goal

abbrev pub invariant-loop-at : goal.invariant-loop-at
invariant-loop-at g l = AllByRecursion (IsPresentTarget (tailoring_in l.inputs)) (take l.at l.relation-items)
