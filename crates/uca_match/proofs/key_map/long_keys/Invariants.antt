use Rattle.std.proofs.Common.{map, take}
use Rattle.uca_elements.specs.Positions.{AreLongKeys}
use Rattle.uca_match.specs.NumberedKeys.{points_of, placed_of}
use Rattle.uca_match.proofs.key_map.long_keys.Given as goal

abbrev pub invariant-loop-position : goal.invariant-loop-position
invariant-loop-position g l = AreLongKeys (points_of (take l.position l.keys)) (map placed_of l.list.items)
