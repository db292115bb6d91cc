-- the bytes so far are the same
use Rattle.std.proofs.Common.{◌≡◌, ◌≤◌, ◌-◌, ◌<◌, ℕ, get_or}
use Rattle.uca_lanes.proofs.shared_len.Given as goal

abbrev pub invariant-loop-shared : goal.invariant-loop-shared
invariant-loop-shared l = record {
  within : l.shared ≤ l.most;
  are : (i : ℕ) → i < l.shared → get_or l.left i 0 ≡ get_or l.right i 0;
}

abbrev pub decreases-loop-shared : goal.decreases-loop-shared
decreases-loop-shared l = l.most - l.shared
