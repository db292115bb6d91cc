-- Bytes mean one book at most, and none if they have an error.
use Rattle.uca_books.proofs.FileLaws.{only_known}
use Rattle.uca_books.proofs.read.read_book.Goals as goal

pub returns-clause-only : goal.returns-clause-only
returns-clause-only g c = only_known _ _ c.read_to_end.result c.read_to_end.ensures.found c.read_to_end.ensures.fault
