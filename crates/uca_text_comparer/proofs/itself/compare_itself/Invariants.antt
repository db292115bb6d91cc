use Rattle.std.proofs.Common.{◌≡◌, length}
use Rattle.uca_comparison.specs.Fronts.{counted}
use Rattle.uca_text_comparer.proofs.itself.compare_itself.Given as goal

-- the elements so far are counted
abbrev pub invariant-loop-element : goal.invariant-loop-element
invariant-loop-element g l = l.count ≡ counted 0 (length l.yielded)
