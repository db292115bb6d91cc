-- The new line, and why there is none.
use Rattle.std.proofs.Common.{◌≡◌, Bool, List, ℕ, OnOk, Some, ap, sym, subst, ◌∙◌}
use Rattle.std.proofs.lemmas.Result.{err_from_is_err_and}
use Rattle.uca_rekey.specs.ChangedLines.{with_key}
use Rattle.uca_rekey.proofs.Changing.{change_cause_by_key, change_memory, key_none, line_put}
use Rattle.uca_rekey.proofs.changed_line.change_line.Goals as goal

pub returns-in_err-rest-clause-cause : goal.returns-in_err-rest-clause-cause
returns-in_err-rest-clause-cause g c =
    let p = err_from_is_err_and c.from_residual.result c.from_residual.ensures.1 in
    rw (p.1, p.2) (λ headers before. change_cause_by_key (g.C.ChangesKeys.means c.args.change.now) headers before c.args.line.now c.in_err-rest.field-0.0
    c.in_err-rest.ensures.cause)

pub returns-in-Ok-true-clause-becomes : goal.returns-in-Ok-true-clause-becomes
returns-in-Ok-true-clause-becomes g c =
    let changed = rw c.in-Ok-true.field-0-test at c.in-Ok-true.ensures.key in
    let spaces = c.keeps_spaces.ensures ∙ ap (λ change. (g.C.ChangesKeys.means change).keeps_spaces) c.in-Ok-true.ensures.same in
    line_put (g.C.ChangesKeys.means c.args.change.now) c.args.line.now c.deref.result.now c.change.new.changed.items c.deref-in-Ok-true.result.now c.put_line.new.made.items c.put_line.result
    (c.in_ok-rest.ensures.key ∙ ap (λ (key : List ℕ). Some key) (sym c.deref.ensures.value)) changed c.deref-in-Ok-true.ensures.value
    (subst (λ (keeps : Bool). OnOk c.put_line.result (c.put_line.new.made.items ≡ with_key keeps c.args.line.now c.deref-in-Ok-true.result.now)) spaces c.put_line.ensures.put)

pub returns-in-Ok-true-clause-cause : goal.returns-in-Ok-true-clause-cause
returns-in-Ok-true-clause-cause g c = λ headers before.
    change_memory (g.C.ChangesKeys.means c.args.change.now) headers before c.args.line.now c.put_line.result c.put_line.ensures.memory

pub returns-in-Ok-false-clause-cause : goal.returns-in-Ok-false-clause-cause
returns-in-Ok-false-clause-cause g c = λ headers before.
    key_none (g.C.ChangesKeys.means c.args.change.now) headers c.none.result before c.args.line.now c.deref.result.now (c.none.ensures.value ∙ ap (λ change. (g.C.ChangesKeys.means change).none) c.in-Ok-false.ensures.same) c.none.ensures.of_key
    (c.in_ok-rest.ensures.key ∙ ap (λ (key : List ℕ). Some key) (sym c.deref.ensures.value))
    (rw c.in-Ok-false.field-0-test at c.in-Ok-false.ensures.key)
