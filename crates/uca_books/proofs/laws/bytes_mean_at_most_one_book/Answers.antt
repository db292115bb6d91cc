-- Bytes are the text of one book at most.
use Rattle.uca_books.proofs.FileLaws.{means_same}
use Rattle.uca_books.proofs.laws.bytes_mean_at_most_one_book.Goals as goal

pub returns : goal.returns
returns c = means_same
