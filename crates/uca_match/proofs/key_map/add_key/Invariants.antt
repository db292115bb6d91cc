use Rattle.std.proofs.Common.{take}
use Rattle.uca_match.specs.Tries.{tree_of, IsAlong}
use Rattle.uca_match.proofs.key_map.add_key.Given as goal

abbrev pub invariant-loop-point : goal.invariant-loop-point
invariant-loop-point g l = IsAlong (tree_of l.initial.tree) (tree_of l.tree) (take l.point-index l.key) l.number
