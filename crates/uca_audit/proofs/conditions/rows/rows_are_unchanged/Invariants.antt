use Rattle.std.proofs.Common.{take}
use Rattle.std.specs.List.{AllByRecursion}
use Rattle.uca_tailorings.specs.Tailorings.{IsUnchangedRow}
use Rattle.uca_audit.specs.inside.Views.{tailoring_in}
use Rattle.uca_audit.proofs.conditions.rows.rows_are_unchanged.Given as goal

abbrev pub invariant-loop-at : goal.invariant-loop-at
invariant-loop-at g l = let t = tailoring_in l.inputs in AllByRecursion (IsUnchangedRow t) (take l.at t.base.rows)
