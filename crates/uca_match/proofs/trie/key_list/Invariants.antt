use Rattle.std.proofs.Common.{◌≡◌, take}
use Rattle.uca_values.specs.Content.{keys_of}
use Rattle.uca_match.specs.NumberedKeys.{points_of}
use Rattle.uca_match.proofs.trie.key_list.Given as goal

abbrev pub invariant-loop-row : goal.invariant-loop-row
invariant-loop-row g l = points_of l.list.items ≡ keys_of (take l.row-index l.rows)
