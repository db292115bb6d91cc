-- The next line, where its new line was written, and why not.
use Rattle.std.specs.Prelude.{⊤}
use Rattle.std.proofs.Common.{[], ◌∷◌, ◌++◌, ℕ, Bool, List, true, false, Ok, Err, refl, ap, arith, sym, subst, subst₂, ◌∙◌}
use Rattle.std.proofs.Math.Bool.{or-false}
use Rattle.std.proofs.lemmas.Result.{err_from_is_err_and}
use Rattle.uca_run_parts.specs.declared.key_sizes.KeySizes.{KeySizes}
use Rattle.uca_rekey.specs.inside.ChangeSoFar.{ChangesLine, HasChanged, WritesLine, WrittenState}
use Rattle.uca_rekey.proofs.Changing.{all_changed, change_not_written, line_changed, none_changed}
use Rattle.uca_rekey.proofs.Ending.{not_before}
use Rattle.uca_rekey.proofs.change_run.ChangeRun.change_rest.Goals as goal

pub returns-in_err-next-clause-changes : goal.returns-in_err-next-clause-changes
returns-in_err-next-clause-changes g c = λ headers start begun before news h.
    let q = err_from_is_err_and c.from_residual.result c.from_residual.ensures.1 in
    let old = c.loop-self.self in
    let now = c.next.new.self in
    let same = c.loop-self.invariant.change in
    let i = c.loop-self.invariant.changed headers start begun before news h in
    let fault = c.in_err-next.field-0.0 in
    let found = subst (λ x. ChangesLine (g.C.ChangesKeys.means x) headers start i.0 now.lines c.next.new.input now.line.items (Err fault)) same
    (c.in_err-next.ensures.changes headers start begun i.0 i.1 c.loop-self.out
    (subst (λ x. HasChanged (g.C.ChangesKeys.means x) headers start begun i.0 i.1 old.lines c.loop-self.input old.written c.loop-self.out) (sym same) i.2)) in
    rw (q.1, q.2) (none_changed (g.C.ChangesKeys.means c.args.self.now.change) headers start begun i.0 i.1 old.lines c.loop-self.input old.written c.loop-self.out i.2
    now.lines c.next.new.input now.line.items now.written fault c.in_err-next.ensures.written found)

pub returns-in_err-next-clause-of_lines : goal.returns-in_err-next-clause-of_lines
returns-in_err-next-clause-of_lines g c =
    let q = err_from_is_err_and c.from_residual.result c.from_residual.ensures.1 in
    rw (q.1, q.2) (not_before Bool KeySizes c.in_err-next.field-0.0 c.in_err-next.ensures.of_lines)

pub loop-self-preserved : goal.loop-self-preserved
loop-self-preserved g c =
    let old = c.loop-self.self in
    let now = c.next.new.self in
    let same = c.loop-self.invariant.change in
    let next = rw c.if-branch.true at c.in_ok-next.ensures in
    record {
      change = next.change ∙ same;
      changed = λ headers start begun before news h.
          let i = c.loop-self.invariant.changed headers start begun before news h in
          let found = subst (λ x. ChangesLine (g.C.ChangesKeys.means x) headers start i.0 now.lines c.next.new.input now.line.items (Ok true)) same
          (next.changes headers start begun i.0 i.1 c.loop-self.out
          (subst (λ x. HasChanged (g.C.ChangesKeys.means x) headers start begun i.0 i.1 old.lines c.loop-self.input old.written c.loop-self.out) (sym same) i.2)) in
          let writes = subst₂ (λ (l : List ℕ) (w : WrittenState). WritesLine {A = ⊤} l w c.write.new.self c.loop-self.out c.write.new.out (Ok tt)) c.deref.ensures.value next.written
          c.in_ok-write.ensures.writes in (
            i.0 ++ found.line ∷ [],
            i.1 ++ now.line.items ∷ [],
            line_changed (g.C.ChangesKeys.means c.args.self.now.change) headers start begun i.0 i.1 old.lines c.loop-self.input old.written c.loop-self.out i.2 now.lines c.next.new.input
                now.line.items found c.write.new.self c.write.new.out writes.0 writes.1,
          );
      input_failed = next.failed ∙ or-false _ ∙ c.loop-self.invariant.input_failed;
      out_failed = c.in_ok-write.ensures.failed ∙ or-false _ ∙ c.loop-self.invariant.out_failed;
    }

pub returns-in_err-write-clause-changes : goal.returns-in_err-write-clause-changes
returns-in_err-write-clause-changes g c = λ headers start begun before news h.
    let q = err_from_is_err_and c.from_residual-in_err-write.result c.from_residual-in_err-write.ensures.1 in
    let old = c.loop-self.self in
    let now = c.next.new.self in
    let same = c.loop-self.invariant.change in
    let next = rw c.if-branch.true at c.in_ok-next.ensures in
    let i = c.loop-self.invariant.changed headers start begun before news h in
    let fault = c.in_err-write.field-0.0 in
    let found = subst (λ x. ChangesLine (g.C.ChangesKeys.means x) headers start i.0 now.lines c.next.new.input now.line.items (Ok true)) same
    (next.changes headers start begun i.0 i.1 c.loop-self.out
    (subst (λ x. HasChanged (g.C.ChangesKeys.means x) headers start begun i.0 i.1 old.lines c.loop-self.input old.written c.loop-self.out) (sym same) i.2)) in
    let stops = subst₂ (λ (l : List ℕ) (w : WrittenState). WritesLine {A = ⊤} l w c.write.new.self c.loop-self.out c.write.new.out (Err fault)) c.deref.ensures.value next.written
    c.in_err-write.ensures.writes in
    rw (q.1, q.2) (change_not_written (g.C.ChangesKeys.means c.args.self.now.change) headers start begun i.0 i.1 old.lines c.loop-self.input old.written c.loop-self.out i.2
    now.lines c.next.new.input now.line.items found c.write.new.self c.write.new.out fault stops)

pub returns-clause-changes : goal.returns-clause-changes
returns-clause-changes g c = λ headers start begun before news h.
    let old = c.loop-self.self in
    let now = c.next.new.self in
    let same = c.loop-self.invariant.change in
    let next = rw c.if-branch.false at c.in_ok-next.ensures in
    let i = c.loop-self.invariant.changed headers start begun before news h in
    let found = subst (λ x. ChangesLine (g.C.ChangesKeys.means x) headers start i.0 now.lines c.next.new.input now.line.items (Ok false)) same
    (next.changes headers start begun i.0 i.1 c.loop-self.out
    (subst (λ x. HasChanged (g.C.ChangesKeys.means x) headers start begun i.0 i.1 old.lines c.loop-self.input old.written c.loop-self.out) (sym same) i.2)) in
    all_changed (g.C.ChangesKeys.means c.args.self.now.change) headers start begun i.0 i.1 old.lines c.loop-self.input old.written c.loop-self.out i.2 now.sizes c.next.new.input now.written.buffer
    (ap (λ (w : WrittenState). w.buffer) next.written) found

pub loop-self-init : goal.loop-self-init
loop-self-init g c = record { change = refl; changed = λ headers start begun before news h. (before, news, h); input_failed = refl; out_failed = refl }

pub loop-self-smaller : goal.loop-self-smaller
loop-self-smaller g c =
    let next = rw c.if-branch.true at c.in_ok-next.ensures in
    omega (arith, c.in_ok-write.ensures.writes.1, ap (λ (w : WrittenState). w.number) next.written, next.few)
