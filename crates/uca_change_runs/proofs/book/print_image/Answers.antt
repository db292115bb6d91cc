-- The image that is written is that of the book. A run that writes it does not end before the output.
use Rattle.std.proofs.Common.{subst}
use Rattle.uca_books.specs.BookTexts.{book_text}
use Rattle.uca_run_parts.proofs.Running.{not_both}
use Rattle.uca_change_runs.specs.BookRun.{WritesImage}
use Rattle.uca_change_runs.proofs.book.print_image.Goals as goal

pub returns-in-Ok-clause-writes : goal.returns-in-Ok-clause-writes
returns-in-Ok-clause-writes g c =
    let ends = c.write_image-written in
    subst (λ image. WritesImage (book_text image) c.args.out.now.contents ends.new.out.contents ends.result) c.in-Ok.ensures ends.ensures.writes

pub returns-in-Ok-clause-nothing_written : goal.returns-in-Ok-clause-nothing_written
returns-in-Ok-clause-nothing_written g c = not_both _ c.write_image-written.ensures.of_output
