-- The lines after the one that was found, and why none was.
use Rattle.std.proofs.Common.{sym, ap, ◌∙◌}
use Rattle.uca_rekey.specs.inside.LinesInPlace.{LinesState, left_of}
use Rattle.uca_rekey.proofs.LinesRead.{line_read, last_read, not_read}
use Rattle.uca_rekey.proofs.lines.KeyLines.next.Goals as goal

pub returns-in-Ok-Terminated-clause-reads : goal.returns-in-Ok-Terminated-clause-reads
returns-in-Ok-Terminated-clause-reads g c = λ start before read.
    let more = sym (ap (λ (s : LinesState). s.at_end) c.self.view_is) ∙ c.if-self.false in
    let found = rw c.in-Ok-Terminated.field-0-is at c.in-Ok-Terminated.ensures in
    line_read start (left_of c.args.self.now c.args.source.now) c.args.self.now.at_end before read (left_of c.find.new.self c.find.new.source) c.find.new.self.at_end
    c.find.new.self.line more found.ends found.finds

pub returns-in-Ok-Unterminated-clause-reads : goal.returns-in-Ok-Unterminated-clause-reads
returns-in-Ok-Unterminated-clause-reads g c = λ start before read.
    let found = rw c.in-Ok-Unterminated.field-0-is at c.in-Ok-Unterminated.ensures in
    last_read start (left_of c.args.self.now c.args.source.now) c.args.self.now.at_end before read (left_of c.find.new.self c.find.new.source) c.find.new.self.at_end
    c.find.new.self.line found.ends found.finds

pub returns-in-Err-clause-reads : goal.returns-in-Err-clause-reads
returns-in-Err-clause-reads g c = λ start before read.
    let more = sym (ap (λ (s : LinesState). s.at_end) c.self.view_is) ∙ c.if-self.false in
    not_read start (left_of c.args.self.now c.args.source.now) (left_of c.find.new.self c.find.new.source) c.find.new.source.remaining c.args.self.now.at_end before
    c.find.new.self.line c.in-Err.kind read more c.in-Err.ensures.finds
