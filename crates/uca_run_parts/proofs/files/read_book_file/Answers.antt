-- What is read of a book, or why it is rejected.
use Rattle.std.proofs.Common.{refl}
use Rattle.uca_books.specs.BookTexts as books
use Rattle.uca_run_parts.specs.declared.faults.FileFault.TheVariants.{Lines}
use Rattle.uca_run_parts.specs.declared.faults.RunFault.TheVariants.{File}
use Rattle.uca_run_parts.specs.declared.faults.Role.TheVariants as roles
use Rattle.uca_run_parts.specs.Files.{OfLines}
use Rattle.uca_run_parts.proofs.ReadFilesLemmas.{file_read, file_rejected}
use Rattle.uca_run_parts.proofs.files.read_book_file.Goals as goal

pub returns-in-Ok : goal.returns-in-Ok
returns-in-Ok g c =
    file_read roles.Book books.Means (OfLines books.Refuses) c.args.source.now c.read_book.new.source (λ book. book) c.in-Ok.book
    c.in-Ok.ensures.found c.in-Ok.ensures.only c.in-Ok.ensures.failed

pub returns-in-Err : goal.returns-in-Err
returns-in-Err g c =
    file_rejected roles.Book books.Means (OfLines books.Refuses) c.args.source.now c.read_book.new.source (λ book. book)
    (File roles.Book (Lines c.in-Err.fault)) c.in-Err.ensures.only (Lines c.in-Err.fault, refl, c.in-Err.ensures.fault) c.in-Err.ensures.failed
