-- the bytes so far are the same
use Rattle.std.proofs.Common.{◌≡◌, ◌≤◌, ◌-◌, take}
use Rattle.uca_lanes.proofs.shared_of_few.Given as goal

abbrev pub invariant-loop-shared : goal.invariant-loop-shared
invariant-loop-shared l = record {
  within : l.shared ≤ l.most;
  same : take l.shared l.left ≡ take l.shared l.right;
}

abbrev pub decreases-loop-shared : goal.decreases-loop-shared
decreases-loop-shared l = l.most - l.shared
