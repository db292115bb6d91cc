use Rattle.std.proofs.Common.{◌≡◌, ◌+◌, ◌-◌, ◌≤◌, length, drop, option_map}
use Rattle.uca_ranges.specs.inside.LevelsLength.{levels_length}
use Rattle.uca_ranges.proofs.levels.levels_end.Given as goal

abbrev pub invariant-loop-at : goal.invariant-loop-at
invariant-loop-at l = (l.at ≤ length l.key) × (option_map (λ n. l.at + n) (levels_length l.left (drop l.at l.key)) ≡ levels_length l.count l.key)

abbrev pub decreases-loop-at : goal.decreases-loop-at
decreases-loop-at l = length l.key - l.at
