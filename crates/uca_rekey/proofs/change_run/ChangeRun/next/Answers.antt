-- The new line of the line that was read, and why there is none.
use Rattle.std.proofs.Common.{[], ◌≡◌, ℕ, List, None, suc, ◌+◌, ◌||◌, length, sym, ap, subst, ◌∙◌, arith}
use Rattle.uca_rekey.specs.ChangedLines.{LineBecomes}
use Rattle.uca_rekey.specs.ChangeRun.{IsChangeCause}
use Rattle.uca_rekey.proofs.LinesRead.{cause_of_line, line_fault, unread_fault}
use Rattle.uca_rekey.proofs.change_run.ChangeRun.next.Goals as goal

pub returns-in-Ok-clause-changes : goal.returns-in-Ok-clause-changes
returns-in-Ok-clause-changes g c = λ headers start begun before news out h.
    let means = g.C.ChangesKeys.means c.args.self.now.change in
    record {
      line = c.next.new.self.line;
      read = rw c.in-Ok-true.field-0-test at c.in-Ok-true.ensures.reads start before h.read;
      becomes = subst (λ (l : List ℕ). LineBecomes means l c.change_line.new.made.items) c.line-old.ensures.value c.in-Ok.ensures.becomes;
    }

pub returns-in-Err-change_line-clause-changes : goal.returns-in-Err-change_line-clause-changes
returns-in-Err-change_line-clause-changes g c = λ headers start begun before news out h.
    let means = g.C.ChangesKeys.means c.args.self.now.change in
    let read = rw c.in-Ok-true.field-0-test at c.in-Ok-true.ensures.reads start before h.read in
    line_fault means headers start before c.next.new.self.line c.next.new.self c.next.new.source (c.number-line.result + 1)
    c.in-Err-change_line.kind read
    (subst (λ (l : List ℕ). IsChangeCause means headers before l c.in-Err-change_line.kind) c.line-old.ensures.value (c.in-Err-change_line.ensures.cause headers before))
    (omega (arith, c.number-line.ensures.value, h.count))

pub returns-in-Err-change_line-clause-failed : goal.returns-in-Err-change_line-clause-failed
returns-in-Err-change_line-clause-failed g c =
    let means = g.C.ChangesKeys.means c.args.self.now.change in
    c.in-Ok-true.ensures.failed
    ∙ ap (λ b. c.args.input.now.failed || b)
    (sym (cause_of_line means None [] c.line-old.result.now c.in-Err-change_line.kind (c.in-Err-change_line.ensures.cause None [])))

pub returns-in-Ok-false-clause-changes : goal.returns-in-Ok-false-clause-changes
returns-in-Ok-false-clause-changes g c = λ headers start begun before news out h.
    rw c.in-Ok-false.field-0-test at c.in-Ok-false.ensures.reads start before h.read

pub returns-in-Err-clause-changes : goal.returns-in-Err-clause-changes
returns-in-Err-clause-changes g c = λ headers start begun before news out h.
    let means = g.C.ChangesKeys.means c.args.self.now.change in
    let place : c.number-line.result + 1 ≡ suc (length before) = omega (arith, c.number-line.ensures.value, h.count) in
    unread_fault means headers start c.next.new.source.remaining before (c.number-line.result + 1) c.in-Err.kind place
    (c.in-Err.ensures.reads start before h.read)
