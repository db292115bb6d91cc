use Rattle.uca_book_images.proofs.BookImages.{images_are_books}
use Rattle.uca_book_images.proofs.laws.images_are_books.Goals as goal

pub returns : goal.returns
returns c = images_are_books
