-- The elements so far have the property.
use Rattle.std.proofs.Common.{take}
use Rattle.std.specs.List.{AllByRecursion}
use Rattle.uca_check.specs.Searches.{StandsApart}
use Rattle.uca_check.proofs.wf4.all_stand_apart.Given as goal

abbrev pub invariant-loop-element : goal.invariant-loop-element
invariant-loop-element g l = AllByRecursion (StandsApart l.range) (take l.element-index l.element-items)
