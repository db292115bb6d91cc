use Rattle.uca_book_images.proofs.KeptPlaces.{rising_maps_keep_places}
use Rattle.uca_book_images.proofs.laws.rising_maps_keep_places.Goals as goal

pub returns : goal.returns
returns c = rising_maps_keep_places
