-- What is read of a book and its sum, or why it is rejected.
use Rattle.std.proofs.Common.{refl}
use Rattle.uca_lines.specs.FileStops.{is_read_kind}
use Rattle.uca_books.specs.BookTexts as books
use Rattle.uca_run_parts.specs.declared.faults.FileFault.TheVariants.{Lines}
use Rattle.uca_run_parts.specs.declared.faults.RunFault.TheVariants.{File}
use Rattle.uca_run_parts.specs.declared.faults.Role.TheVariants as roles
use Rattle.uca_run_parts.specs.Files.{OfLines}
use Rattle.uca_run_parts.proofs.FilesLemmas.{read_of_role}
use Rattle.uca_run_parts.proofs.ReadFilesLemmas.{file_read, file_rejected}
use Rattle.uca_fingerprint_runs.specs.Sums.{MeansSummed}
use Rattle.uca_fingerprint_runs.proofs.BookText.{sum_of_bytes}
use Rattle.uca_fingerprint_runs.proofs.SummedMeanings.{means_summed, only_summed, whatever_summed}
use Rattle.uca_fingerprint_runs.proofs.summed_files.read_summed_book.Goals as goal

pub returns-in-Ok : goal.returns-in-Ok
returns-in-Ok g c =
    let book = c.in-Ok.book in
    let sum = c.sum_of_book-sum.result in
    let is = sum_of_bytes c.args.source.now.remaining book sum c.sum_of_book-sum.ensures c.in-Ok.ensures.found in
    file_read roles.Book (MeansSummed books.Means) (OfLines books.Refuses) c.args.source.now c.read_book.new.source (λ read. (read.0, read.1)) (book, sum)
    (means_summed books.Means _ book sum c.in-Ok.ensures.found is) (only_summed books.Means _ book sum c.in-Ok.ensures.only is) c.in-Ok.ensures.failed

pub returns-in-Err : goal.returns-in-Err
returns-in-Err g c =
    file_rejected roles.Book (MeansSummed books.Means) (OfLines books.Refuses) c.args.source.now c.read_book.new.source (λ read. (read.0, read.1))
    (File roles.Book (Lines c.in-Err.fault)) (whatever_summed books.Means _ _ c.in-Err.ensures.only) (Lines c.in-Err.fault, refl, c.in-Err.ensures.fault)
    (read_of_role roles.Book c.read_book.new.source.failed c.args.source.now.failed (is_read_kind c.in-Err.fault.kind) c.in-Err.ensures.failed)
