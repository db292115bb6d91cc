use Rattle.uca_book_images.proofs.MovedKeys.{moved_keys_stay}
use Rattle.uca_book_images.proofs.laws.moved_keys_stay.Goals as goal

pub returns : goal.returns
returns c = moved_keys_stay
