use Rattle.uca_book_images.proofs.KeptKeys.{kept_keys_stay}
use Rattle.uca_book_images.proofs.laws.kept_keys_stay.Goals as goal

pub returns : goal.returns
returns c = kept_keys_stay
