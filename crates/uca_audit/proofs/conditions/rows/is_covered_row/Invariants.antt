-- The elements so far are covered.
use Rattle.std.proofs.Common.{take}
use Rattle.std.specs.List.{AllByRecursion}
use Rattle.uca_tailorings.specs.Inputs.{maps_of}
use Rattle.uca_tailorings.specs.Tailorings.{IsCovered}
use Rattle.uca_audit.proofs.conditions.rows.is_covered_row.Given as goal

abbrev pub invariant-loop-element : goal.invariant-loop-element
invariant-loop-element g l = AllByRecursion (IsCovered (maps_of l.images)) (take l.element-index l.element-items)
