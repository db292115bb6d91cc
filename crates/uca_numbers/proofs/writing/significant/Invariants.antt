use Rattle.std.proofs.Common.{length, ◌-◌, ◌≡◌, ◌≤◌, drop}
use Rattle.uca_numbers.specs.Numbers.{significant}
use Rattle.uca_numbers.proofs.writing.significant.Given as goal

abbrev pub invariant-loop-start : goal.invariant-loop-start
invariant-loop-start l = (l.start ≤ length l.number) × (significant (drop l.start l.number) ≡ significant l.number)

abbrev pub decreases-loop-start : goal.decreases-loop-start
decreases-loop-start l = length l.number - l.start
