-- The last image below the weight.
use Rattle.std.proofs.Common.{◌≡◌}
use Rattle.uca_weights.specs.Runs.{weight_image}
use Rattle.uca_book_images.specs.BookImages.{last_image}
use Rattle.uca_book_images.proofs.image.last_below.Given as goal

abbrev pub invariant-loop-weight : goal.invariant-loop-weight
invariant-loop-weight g l = l.found ≡ last_image (weight_image l.map.level l.map.runs) l.weight
