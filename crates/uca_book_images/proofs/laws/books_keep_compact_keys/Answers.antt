use Rattle.uca_book_images.proofs.KeptBooks.{books_keep_compact_keys}
use Rattle.uca_book_images.proofs.laws.books_keep_compact_keys.Goals as goal

pub returns : goal.returns
returns c = books_keep_compact_keys
