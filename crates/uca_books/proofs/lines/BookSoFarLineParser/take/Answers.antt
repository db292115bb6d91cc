-- One more line is said; a reader that failed is not the error of a line.
use Rattle.std.proofs.lemmas.Result.{on_ok_weaker}
use Rattle.uca_books.proofs.LineLaws.{never_read, says_more}
use Rattle.uca_books.proofs.lines.BookSoFarLineParser.take.Goals as goal

pub returns-clause-ok : goal.returns-clause-ok
returns-clause-ok g c =
    on_ok_weaker c.take_line.result (λ takes lines says. says_more lines c.args.self.now c.args.line.now c.take_line.new.self says takes)
    c.take_line.ensures.ok

pub returns-clause-not_read : goal.returns-clause-not_read
returns-clause-not_read g c = never_read c.args.self.now c.args.line.now c.take_line.result c.take_line.ensures.fault
