use Rattle.std.proofs.Common.{◌≡◌, ◌≤◌, length, drop, reverse}
use Rattle.std.specs.List.{AllByRecursion}
use Rattle.uca_plans.specs.Plans.{runs_of}
use Rattle.uca_tailor.specs.inside.NumberTables.{EndsLow}
use Rattle.uca_tailor.proofs.numbers.levels.runs_of.Given as goal

-- the runs are those of the members from here on, in reverse order
abbrev pub invariant-loop-left : goal.invariant-loop-left
invariant-loop-left g l = record {
  within : l.left ≤ length l.members;
  runs : reverse l.runs.items ≡ runs_of (drop l.left l.members) (drop l.left l.numbers);
  low : AllByRecursion EndsLow (reverse l.runs.items);
}

abbrev pub decreases-loop-left : goal.decreases-loop-left
decreases-loop-left g l = l.left
