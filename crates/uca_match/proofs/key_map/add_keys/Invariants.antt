use Rattle.std.proofs.Common.{map}
use Rattle.uca_match.specs.NumberedKeys.{points_of, placed_of}
use Rattle.uca_match.specs.Tries.{tree_of}
use Rattle.uca_match.proofs.TrieKeys.{IsBuilt, IsShortBelow, IsShortOr}
use Rattle.uca_match.proofs.key_map.add_keys.Given as goal

abbrev pub invariant-loop-position : goal.invariant-loop-position
invariant-loop-position g l = IsBuilt (points_of l.keys) (IsShortBelow l.position) (tree_of l.tree)

abbrev pub invariant-loop-numbered : goal.invariant-loop-numbered
invariant-loop-numbered g l = IsBuilt (points_of l.keys) (IsShortOr (map placed_of l.numbered-items) l.numbered-index) (tree_of l.tree)
