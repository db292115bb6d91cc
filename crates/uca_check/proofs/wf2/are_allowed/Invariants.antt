-- The elements so far have the property.
use Rattle.std.proofs.Common.{take}
use Rattle.std.specs.List.{AllByRecursion}
use Rattle.uca_check.specs.Searches.{IsAllowed}
use Rattle.uca_check.proofs.wf2.are_allowed.Given as goal

abbrev pub invariant-loop-element : goal.invariant-loop-element
invariant-loop-element g l = AllByRecursion (IsAllowed l.greatest) (take l.element-index l.element-items)
