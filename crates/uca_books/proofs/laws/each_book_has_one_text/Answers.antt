use Rattle.uca_books.specs.BookTexts.{book_text}
use Rattle.uca_books.proofs.WriteLaws.{means_itself}
use Rattle.uca_books.proofs.laws.each_book_has_one_text.Goals as goal

pub returns : goal.returns
returns c = λ book h. (book_text book, record { means = means_itself book h; only = λ others means. means.text })
