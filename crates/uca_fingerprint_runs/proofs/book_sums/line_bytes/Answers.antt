-- A line, byte by byte.
use Rattle.uca_books.proofs.WriteLaws.{line_bytes_are}
use Rattle.uca_fingerprint_runs.proofs.book_sums.line_bytes.Goals as goal

pub returns : goal.returns
returns c = line_bytes_are c.args.level c.args.start c.four_digits.result c.four_digits.ensures
