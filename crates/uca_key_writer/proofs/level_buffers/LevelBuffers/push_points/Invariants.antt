use Rattle.std.proofs.Common.{◌≡◌, ◌∷◌, ◌++◌, take}
use Rattle.uca_order.specs.Depths.{points_bytes}
use Rattle.uca_key_writer.specs.inside.LevelBuffers.{HasRoom}
use Rattle.uca_key_writer.proofs.level_buffers.LevelBuffers.push_points.Given as goal

-- the points so far follow the key, and the levels stay
abbrev pub invariant-loop-point : goal.invariant-loop-point
invariant-loop-point g l = let now = l.self-inside in record {
  bytes : now.key.items ≡ l.fn.self.key ++ (0 ∷ 0 ∷ points_bytes (take l.point-index l.points));
  room : HasRoom 0 now.counts now.primary.items now.secondary.items now.tertiary.items now.quaternary.items;
}
