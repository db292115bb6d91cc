-- The levels so far are put through their maps.
use Rattle.std.proofs.Common.{suc, ◌-◌, ◌≤◌, length}
use Rattle.uca_tailorings.specs.Inputs.{maps_of}
use Rattle.uca_tailorings.specs.Moves.{moved_key}
use Rattle.uca_images.specs.Moving.{HasMoved}
use Rattle.uca_images.proofs.mover.KeyMover.move_key.Given as goal

abbrev pub invariant-loop-level : goal.invariant-loop-level
invariant-loop-level g l = record {
  within : l.at ≤ length l.key;
  moved : HasMoved (maps_of l.self.certificate) l.self.settings.depth (suc l.level) (l.levels - l.level) l.at l.key
      (moved_key (maps_of l.self.certificate) l.self.settings.depth l.self.settings.weighting l.initial.key);
}
