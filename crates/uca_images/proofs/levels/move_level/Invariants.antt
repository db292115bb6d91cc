-- The weights before `at` are put through the map.
use Rattle.std.proofs.Common.{ℕ, suc, ◌-◌, ◌≤◌, List, Option, length}
use Rattle.uca_weights.specs.declared.Depth.{Depth}
use Rattle.uca_tailorings.specs.Images.{Maps}
use Rattle.uca_tailorings.specs.Moves.{level_images}
use Rattle.uca_images.specs.inside.ImageTables.{IsImageTable}
use Rattle.uca_images.specs.Moving.{HasMoved}
use Rattle.uca_images.proofs.levels.move_level.Given as goal

abbrev pub invariant-loop-at : goal.invariant-loop-at
invariant-loop-at l = record {
  within : l.at ≤ length l.key;
  moved : (maps : Maps) (depth : Depth) (level more : ℕ) (moved : Option (List ℕ)) → IsImageTable (level_images maps level) l.images →
      HasMoved maps depth level (suc more) l.fn.start l.initial.key moved → HasMoved maps depth level (suc more) l.at l.key moved;
}

abbrev pub decreases-loop-at : goal.decreases-loop-at
decreases-loop-at l = length l.key - l.at
