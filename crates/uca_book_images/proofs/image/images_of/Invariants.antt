-- The images so far, and those of the starts that are left.
use Rattle.std.proofs.Common.{◌≡◌, ◌++◌, drop}
use Rattle.uca_weights.specs.Runs.{weight_image}
use Rattle.uca_books.specs.Books.{RiseAfter}
use Rattle.uca_book_images.specs.BookImages.{last_image, starts_image}
use Rattle.uca_book_images.proofs.image.images_of.Given as goal

abbrev pub invariant-loop-start : goal.invariant-loop-start
invariant-loop-start g l = record {
  rise : RiseAfter l.below (drop l.start-index l.starts);
  last : l.last ≡ last_image (weight_image l.map.level l.map.runs) l.below;
  images : l.images.items ++ starts_image (weight_image l.map.level l.map.runs) l.greatest l.before (drop l.start-index l.starts)
      ≡ starts_image (weight_image l.map.level l.map.runs) l.greatest 1 l.starts;
}
