-- What is returned where a line may come, from what the reader of lines says.
use Rattle.std.proofs.Common.{◌≤◌, ◌+◌, Err, add-one, ap, length, refl, subst, sym, ◌∙◌}
use Rattle.uca_lines.specs.LineReader.{left_of}
use Rattle.uca_lines.specs.NextLine.{SaysOfBytes}
use Rattle.uca_run_parts.specs.Texts.{HasNoText, HasRead}
use Rattle.uca_run_parts.proofs.TextsLemmas.{ended_line, cut_line, no_line}
use Rattle.uca_run_parts.proofs.input.InputLines.next.Goals as goal

pub returns-in-Ok-Terminated-clause-reads : goal.returns-in-Ok-Terminated-clause-reads
returns-in-Ok-Terminated-clause-reads g c = λ read_of start before h.
    let read = subst (λ s. HasRead read_of start before s c.args.input.now) (sym c.self.view_is) h in
    let at = rw c.in-Ok-Terminated.field-0-is at c.in-Ok-Terminated.ensures in
    ended_line read_of start before _ c.args.input.now read c.next_line.new.self c.next_line.new.source c.next_line.new.line.items c.if-self.false at.bytes at.no_lf at.number

pub returns-in-Ok-Unterminated-clause-reads : goal.returns-in-Ok-Unterminated-clause-reads
returns-in-Ok-Unterminated-clause-reads g c = λ read_of start before h.
    let read = subst (λ s. HasRead read_of start before s c.args.input.now) (sym c.self.view_is) h in
    let at = rw c.in-Ok-Unterminated.field-0-is at c.in-Ok-Unterminated.ensures in
    cut_line read_of start before _ c.args.input.now read c.next_line.new.self c.next_line.new.source c.next_line.new.line.items c.if-self.false at.bytes (at.cut refl) at.no_lf at.number

pub returns-in-Err-clause-reads : goal.returns-in-Err-clause-reads
returns-in-Err-clause-reads g c = λ read_of start before h.
    let read = subst (λ s. HasRead read_of start before s c.args.input.now) (sym c.self.view_is) h in
    let says = subst (λ n. SaysOfBytes (left_of c.self.inside.reader c.args.input.now) (left_of c.next_line.new.self c.next_line.new.source) c.next_line.new.line.items n (Err c.in-Err.fault))
    c.self.invariant.0 c.in-Err.ensures.bytes in
    let place = ap (λ n. n + 1) (c.number-line.ensures.value ∙ read.count) ∙ add-one _ in
    subst (λ n. HasNoText read_of start before c.next_line.new.source n c.kind_of_line.result) (sym place)
    (rw c.kind_of_line.ensures (no_line read_of start before _ c.args.input.now read c.next_line.new.self c.next_line.new.source c.next_line.new.line.items c.if-self.false
    c.in-Err.fault says c.in-Err.ensures.limit c.in-Err.ensures.no_lf (subst (λ n. length c.next_line.new.line.items ≤ n) c.self.invariant.0 c.in-Err.ensures.fits)
    (λ failed. c.in-Err.ensures.read (ap Err failed))))
