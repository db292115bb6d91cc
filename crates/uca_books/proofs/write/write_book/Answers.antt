use Rattle.std.proofs.Common.{[], arith}
use Rattle.uca_lines.proofs.BufferedLemmas.{none_buffered, nothing_counted, flush_leaves_some}
use Rattle.uca_books.specs.BookTexts.{book_text}
use Rattle.uca_books.proofs.write.write_book.Goals as goal

pub write_lines-requires : goal.write_lines-requires
write_lines-requires g c = nothing_counted c.new-buffer.result c.new-buffer.ensures.held c.new-buffer.ensures.written

pub returns-in-Err-clause-text : goal.returns-in-Err-clause-text
returns-in-Err-clause-text g c =
    let before = c.args.out.now.contents in
    c.in-Err.ensures.text.went_out before [] (none_buffered before c.new-buffer.result c.new-buffer.ensures.held c.new-buffer.ensures.written)

pub returns-in-Err-clause-not_all : goal.returns-in-Err-clause-not_all
returns-in-Err-clause-not_all g c =
    omega (arith, c.in-Err.ensures.text.not_all, nothing_counted c.new-buffer.result c.new-buffer.ensures.held c.new-buffer.ensures.written)

pub returns-in-Ok-clause-text : goal.returns-in-Ok-clause-text
returns-in-Ok-clause-text g c =
    let before = c.args.out.now.contents in
    c.flush.ensures.text before (book_text c.args.book.now)
    (c.in-Ok.ensures.text.writes before [] (none_buffered before c.new-buffer.result c.new-buffer.ensures.held c.new-buffer.ensures.written))

pub returns-in-Ok-clause-not_all : goal.returns-in-Ok-clause-not_all
returns-in-Ok-clause-not_all g c =
    flush_leaves_some c.flush.result c.new-buffer.ensures.held c.new-buffer.ensures.written c.in-Ok.ensures.text c.flush.ensures.not_all
