use Rattle.std.proofs.Common.{◌≡◌, take, Some}
use Rattle.uca_match.specs.Tries.{tree_of, walk}
use Rattle.uca_match.proofs.key_map.KeyMap.position.Given as goal

abbrev pub invariant-loop-point : goal.invariant-loop-point
invariant-loop-point g l = walk (tree_of l.self) 0 (take l.point-index l.key) ≡ Some l.node.number
