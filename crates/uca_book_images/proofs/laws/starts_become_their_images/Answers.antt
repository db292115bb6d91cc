use Rattle.uca_book_images.proofs.KeptPlaces.{starts_become_their_images}
use Rattle.uca_book_images.proofs.laws.starts_become_their_images.Goals as goal

pub returns : goal.returns
returns c = starts_become_their_images
