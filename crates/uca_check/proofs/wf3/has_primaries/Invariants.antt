-- The variable elements so far have a primary.
use Rattle.std.proofs.Common.{◌≢◌, take}
use Rattle.std.specs.List.{AllByRecursion}
use Rattle.uca_check.specs.WellFormed.{IsVariable}
use Rattle.uca_check.proofs.wf3.has_primaries.Given as goal

abbrev pub invariant-loop-element : goal.invariant-loop-element
invariant-loop-element g l = AllByRecursion (λ e. IsVariable e → e.primary ≢ 0) (take l.element-index l.element-items)
