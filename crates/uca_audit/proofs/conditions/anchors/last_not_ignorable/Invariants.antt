use Rattle.std.proofs.Common.{drop}
use Rattle.std.specs.List.{AllByRecursion}
use Rattle.uca_tailorings.specs.Placing.{IsIgnorableTo}
use Rattle.uca_audit.proofs.conditions.anchors.last_not_ignorable.Given as goal

abbrev pub invariant-loop-at : goal.invariant-loop-at
invariant-loop-at l = AllByRecursion (IsIgnorableTo l.level) (drop l.at l.elements)
