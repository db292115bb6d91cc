-- Each weight so far has its image at its position.
use Rattle.std.proofs.Common.{◌≡◌, length}
use Rattle.uca_weights.specs.Runs.{weight_image}
use Rattle.uca_images.specs.inside.ImageTables.{AreImagesBelow}
use Rattle.uca_images.proofs.images.images_of.Given as goal

abbrev pub invariant-loop-weight : goal.invariant-loop-weight
invariant-loop-weight g l =
    (length l.images.items ≡ l.weight) × AreImagesBelow l.weight (weight_image l.map.level l.map.runs) l.images.items
