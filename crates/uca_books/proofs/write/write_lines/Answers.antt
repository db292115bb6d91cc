-- The header and the starts of both levels are written in turn.
use Rattle.std.proofs.Common.{[], refl, ap, arith}
use Rattle.uca_lines.proofs.BufferedLemmas.{part, written_none, part_fits, part_written, returns_fault, returns_last}
use Rattle.uca_books.specs.inside.Steps.{starts_text}
use Rattle.uca_books.proofs.WriteLaws.{book_parts, book_is, book_fits, means_itself}
use Rattle.uca_books.proofs.write.write_lines.Goals as goal

pub write-requires : goal.write-requires
write-requires g c =
    let book = c.args.book.now in
    part_fits part (book_parts book) 0 [] _ _ (book_is book) refl (omega arith) (written_none c.args.buffer.now c.args.out.now)
    (book_fits book c.args.buffer.now c.requires c.letters-letters.ensures.book)

pub returns-in_err-write-clause-text : goal.returns-in_err-write-clause-text
returns-in_err-write-clause-text g c =
    let book = c.args.book.now in
    returns_fault part (book_parts book) 0 [] _ _ c.from_residual.result (book_is book) refl (omega arith) (written_none c.args.buffer.now c.args.out.now)
    c.in_err-write.ensures.writes c.from_residual.ensures.1

pub write_starts-requires : goal.write_starts-requires
write_starts-requires g c =
    let book = c.args.book.now in
    let one = part_written part (book_parts book) 0 [] refl (omega arith) (written_none c.args.buffer.now c.args.out.now) c.in_ok-write.ensures.writes in
    part_fits part (book_parts book) 1 [] _ _ (book_is book) (ap (starts_text 49) c.letters-letters.ensures.value) (omega arith) one
    (book_fits book c.args.buffer.now c.requires c.letters-letters.ensures.book)

pub returns-in_err-write_starts-clause-text : goal.returns-in_err-write_starts-clause-text
returns-in_err-write_starts-clause-text g c =
    let book = c.args.book.now in
    let one = part_written part (book_parts book) 0 [] refl (omega arith) (written_none c.args.buffer.now c.args.out.now) c.in_ok-write.ensures.writes in
    returns_fault part (book_parts book) 1 [] _ _ c.from_residual-in_err-write_starts.result (book_is book) (ap (starts_text 49) c.letters-letters.ensures.value)
    (omega arith) one c.in_err-write_starts.ensures c.from_residual-in_err-write_starts.ensures.1

pub write_starts-requires-2 : goal.write_starts-requires-2
write_starts-requires-2 g c =
    let book = c.args.book.now in
    let one = part_written part (book_parts book) 0 [] refl (omega arith) (written_none c.args.buffer.now c.args.out.now) c.in_ok-write.ensures.writes in
    let two = part_written part (book_parts book) 1 [] (ap (starts_text 49) c.letters-letters.ensures.value) (omega arith) one c.in_ok-write_starts.ensures in
    part_fits part (book_parts book) 2 [] _ _ (book_is book) (ap (starts_text 52) c.variables-variables.ensures.value) (omega arith) two
    (book_fits book c.args.buffer.now c.requires c.letters-letters.ensures.book)

pub returns-clause-text : goal.returns-clause-text
returns-clause-text g c =
    let book = c.args.book.now in
    let one = part_written part (book_parts book) 0 [] refl (omega arith) (written_none c.args.buffer.now c.args.out.now) c.in_ok-write.ensures.writes in
    let two = part_written part (book_parts book) 1 [] (ap (starts_text 49) c.letters-letters.ensures.value) (omega arith) one c.in_ok-write_starts.ensures in
    returns_last part (book_parts book) 2 [] _ _ _ _ c.write_starts-2.result (book_is book) (ap (starts_text 52) c.variables-variables.ensures.value) (omega arith) two
    c.write_starts-2.ensures

pub returns-clause-means : goal.returns-clause-means
returns-clause-means g c = means_itself c.args.book.now c.letters-letters.ensures.book

pub returns-in_err-write-clause-means : goal.returns-in_err-write-clause-means
returns-in_err-write-clause-means g c = means_itself c.args.book.now c.letters-letters.ensures.book

pub returns-in_err-write_starts-clause-means : goal.returns-in_err-write_starts-clause-means
returns-in_err-write_starts-clause-means g c = means_itself c.args.book.now c.letters-letters.ensures.book
