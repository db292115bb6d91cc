use Rattle.std.proofs.Common.{◌≡◌, ◌+◌, ◌-◌, ◌≤◌, length, false, drop}
use Rattle.uca_ranges.specs.inside.WeightCounts.{weights_counted}
use Rattle.uca_ranges.proofs.plain.weight_count.Given as goal

abbrev pub invariant-loop-at : goal.invariant-loop-at
invariant-loop-at l = (l.at ≤ length l.bytes) × (l.count ≤ l.at)
    × (l.count + weights_counted l.leaves_out l.after_lead l.left (drop l.at l.bytes) ≡ weights_counted l.leaves_out false l.level l.bytes)

abbrev pub decreases-loop-at : goal.decreases-loop-at
decreases-loop-at l = length l.bytes - l.at
