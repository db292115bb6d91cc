-- The reader knows all bytes.
use Rattle.std.proofs.Common.{subst}
use Rattle.std.specs.Prelude.{IfSome}
use Rattle.uca_lines.specs.FileStops.{IsStop}
use Rattle.uca_books.specs.Books.{BookContent}
use Rattle.uca_books.specs.BookTexts as books
use Rattle.uca_books.specs.BookTexts.{Says, Cause, IsUnfinished, Refuses}
use Rattle.uca_owned.proofs.InMemory.{or_memory, memory_of}
use Rattle.uca_c.proofs.opening.book_of.Goals as goal

pub returns-in-Err-clause-only : goal.returns-in-Err-clause-only
returns-in-Err-clause-only c content means =
    memory_of c.in-Err.fault.kind c.in_memory.result.kind c.in_memory.ensures.kind c.in_memory.ensures.read
    (subst (λ known. IfSome known (λ bytes. (content : BookContent) → books.Means bytes content → IsStop c.in-Err.fault.kind)) c.new.ensures.bytes c.in-Err.ensures.only
    content means)

pub returns-in-Err-clause-rejected : goal.returns-in-Err-clause-rejected
returns-in-Err-clause-rejected c = record {
  left = c.read_book.new.source.remaining;
  cause = or_memory Says Cause IsUnfinished c.args.book.now c.read_book.new.source.remaining c.in-Err.fault.line c.in_memory.result.line
      c.in-Err.fault.kind c.in_memory.result.kind c.in_memory.ensures.line c.in_memory.ensures.kind
      (subst (λ known. IfSome known (λ bytes. Refuses bytes c.read_book.new.source.remaining c.in-Err.fault)) c.new.ensures.bytes c.in-Err.ensures.fault);
  not_read = c.in_memory.ensures.not_read;
}
