use Rattle.std.proofs.Common.{◌+◌, Ok, Err, refl, ap, ◌∙◌}
use Rattle.uca_lines.specs.LineReader.{left_of}
use Rattle.uca_lines.proofs.FileStepLemmas.{at_end, step_fault, line_not_taken, last_not_taken}
use Rattle.uca_lines.proofs.files.reading.take_line.Goals as goal

-- the taker rejects a line
pub returns-in-Err-take-clause-fault : goal.returns-in-Err-take-clause-fault
returns-in-Err-take-clause-fault g c =
    line_not_taken g.T.LineParser.form g.T.LineParser.cause (left_of c.args.lines.now c.args.source.now)
    (left_of c.next_line.new.self c.next_line.new.source) c.next_line.new.source.remaining (c.args.lines.now.number + 1) c.args.taker.now
    c.next_line.new.line.items _ (rw c.in-Ok-Terminated.field-0-is at c.in-Ok-Terminated.ensures.bytes) c.next_line.ensures.no_lf
    (rw c.deref.ensures.value at c.in-Err-take.ensures.fault)

-- no line was read
pub returns-in-Err-clause-fault : goal.returns-in-Err-clause-fault
returns-in-Err-clause-fault g c =
    rw (c.kind_of.ensures, c.form.ensures.value) (step_fault g.T.LineParser.form g.T.LineParser.cause (left_of c.args.lines.now c.args.source.now)
    c.next_line.new.source.remaining c.next_line.new.self.pending c.next_line.new.line.items c.args.lines.now.longest c.args.lines.now.number
    c.args.taker.now
    c.in-Err.fault c.requires.longest c.requires.few c.in-Err.ensures.bytes c.next_line.ensures.no_lf c.next_line.ensures.fits c.in-Err.ensures.limit
    (λ e. c.next_line.ensures.read (c.in-Err.is ∙ ap Err e)))

-- no LF ends the last line
pub returns-in-Ok-Unterminated-clause-fault : goal.returns-in-Ok-Unterminated-clause-fault
returns-in-Ok-Unterminated-clause-fault g c =
    last_not_taken g.T.LineParser.form g.T.LineParser.cause (left_of c.args.lines.now c.args.source.now)
    (left_of c.next_line.new.self c.next_line.new.source) c.next_line.new.source.remaining (c.args.lines.now.number + 1) c.args.taker.now
    c.next_line.new.line.items _ (rw c.in-Ok-Unterminated.field-0-is at c.in-Ok-Unterminated.ensures.bytes) c.next_line.ensures.no_lf
    (c.next_line.ensures.cut (c.in-Ok-Unterminated.is ∙ ap Ok c.in-Ok-Unterminated.field-0-is))
    (rw c.deref-in-Ok-Unterminated.ensures.value at c.last_line_kind.ensures.cause)

-- no byte is left
pub returns-in-Ok-EndOfInput-clause-end : goal.returns-in-Ok-EndOfInput-clause-end
returns-in-Ok-EndOfInput-clause-end g c =
    let gone = rw c.in-Ok-EndOfInput.field-0-is at c.in-Ok-EndOfInput.ensures.bytes in
    (at_end _ _ c.next_line.new.line.items gone.0 (c.next_line.ensures.end (c.in-Ok-EndOfInput.is ∙ ap Ok c.in-Ok-EndOfInput.field-0-is)) gone.1, refl)
