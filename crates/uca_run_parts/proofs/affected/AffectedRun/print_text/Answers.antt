-- Which lines are written. The counts of what is written fit.
use Rattle.std.proofs.Common.{◌≡◌, List, ℕ, ◌++◌, ◌+◌, ◌-◌, ◌<◌, true, false, length, arith, ap, append-nil, subst, sym, ◌∙◌}
use Rattle.std.proofs.lemmas.Result.{err_from_is_err_and}
use Rattle.uca_text.specs.Texts.{NfdText}
use Rattle.uca_lines.specs.Buffered.{count_of}
use Rattle.uca_lines.specs.Lines.{ended}
use Rattle.uca_lines.specs.OutputBuffer.{IsBuffered}
use Rattle.uca_run_parts.proofs.AffectedLines.{affected_is_short, line_affected, nothing_affected, test_gives}
use Rattle.uca_run_parts.proofs.Finishing.{piece_fails}
use Rattle.uca_run_parts.proofs.Printing.{small_enough, still_small}
use Rattle.uca_run_parts.specs.Runs.{PartWentOut}
use Rattle.uca_run_parts.proofs.affected.AffectedRun.print_text.Goals as goal

pub returns-then-not-affects-clause-prints : goal.returns-then-not-affects-clause-prints
returns-then-not-affects-clause-prints g c = λ begun before h.
    let texts = c.args.self.now.texts in
    let is_so = g.X.Affects.affects c.args.affects.now in
    let none = test_gives is_so c.text.result.now texts.text.points c.affects.result false c.affects.ensures c.if-not-affects.true
    (ap (λ (text : NfdText). text.points) c.text.ensures) in
    subst (λ (text : List ℕ). IsBuffered begun c.args.out.now.contents text c.args.self.now.output)
    (sym (ap (λ piece. before ++ piece) (nothing_affected is_so texts.text.points texts.lines.line none) ∙ append-nil before)) h

pub write_line-requires : goal.write_line-requires
write_line-requires g c =
    let number = c.args.self.now.texts.lines.reader.number in
    let few : number - 1 < 1000000 = omega (arith, c.requires.few, c.requires.most) in
    small_enough (number - 1) (count_of c.args.self.now.output) (length (ended c.line.result.now)) c.requires.small few
    (affected_is_short c.line.result.now c.line.ensures.within)

pub returns-in_err-write_line-clause-prints : goal.returns-in_err-write_line-clause-prints
returns-in_err-write_line-clause-prints g c = λ begun before h.
    let p = err_from_is_err_and c.from_residual.result c.from_residual.ensures.1 in
    let texts = c.args.self.now.texts in
    let is_so = g.X.Affects.affects c.args.affects.now in
    let affected = test_gives is_so c.text.result.now texts.text.points c.affects.result true c.affects.ensures c.if-not-affects.false
    (ap (λ (text : NfdText). text.points) c.text.ensures) in
    let piece = line_affected is_so texts.text.points texts.lines.line affected ∙ ap ended (sym c.line.ensures.value) in
    rw (p.1, p.2) (subst (λ (text : List ℕ). PartWentOut begun c.write_line.new.out.contents (before ++ text) c.in_err-write_line.field-0.0.written) (sym piece)
    (piece_fails begun before c.in_err-write_line.ensures.writes h))

pub returns-clause-prints : goal.returns-clause-prints
returns-clause-prints g c = λ begun before h.
    let texts = c.args.self.now.texts in
    let is_so = g.X.Affects.affects c.args.affects.now in
    let affected = test_gives is_so c.text.result.now texts.text.points c.affects.result true c.affects.ensures c.if-not-affects.false
    (ap (λ (text : NfdText). text.points) c.text.ensures) in
    let piece = line_affected is_so texts.text.points texts.lines.line affected ∙ ap ended (sym c.line.ensures.value) in
    subst (λ (text : List ℕ). IsBuffered begun c.write_line.new.out.contents (before ++ text) c.write_line.new.output) (sym piece)
    (c.in_ok-write_line.ensures.writes.writes begun before h)

pub returns-clause-small : goal.returns-clause-small
returns-clause-small g c =
    let output = c.args.self.now.output in
    let number = c.args.self.now.texts.lines.reader.number in
    let next : number ≡ number - 1 + 1 = omega (arith, c.requires.few) in
    still_small (number - 1) number (count_of output) (count_of c.write_line.new.output) (length (ended c.line.result.now)) c.requires.small next
    (affected_is_short c.line.result.now c.line.ensures.within) c.in_ok-write_line.ensures.writes.count
