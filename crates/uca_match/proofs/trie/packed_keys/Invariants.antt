use Rattle.std.proofs.Common.{◌≡◌, ◌≤◌, ◌-◌, length, take}
use Rattle.uca_values.specs.Content.{keys_of}
use Rattle.uca_match.specs.NumberedKeys.{points_of}
use Rattle.uca_match.proofs.trie.packed_keys.Given as goal

abbrev pub invariant-loop-at : goal.invariant-loop-at
invariant-loop-at g l = record {
  lent : points_of l.list.items ≡ keys_of (take l.at l.rows);
  within : l.at ≤ length l.rows;
}

abbrev pub decreases-loop-at : goal.decreases-loop-at
decreases-loop-at g l = length l.rows - l.at
