-- The elements so far have their images.
use Rattle.std.proofs.Common.{take}
use Rattle.uca_tailorings.specs.Images.{AreImages}
use Rattle.uca_tailorings.specs.Inputs.{maps_of}
use Rattle.uca_images.proofs.rows.are_images.Given as goal

abbrev pub invariant-loop-at : goal.invariant-loop-at
invariant-loop-at g l = AreImages (maps_of l.images) (take l.at l.old) (take l.at l.new)
