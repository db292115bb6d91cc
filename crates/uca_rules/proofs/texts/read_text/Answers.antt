-- A piece further, and why none follows.
use Rattle.std.proofs.Common.{refl, ◌≡◌, inl, inr, sym, subst, ◌∙◌, length, rules}
use Rattle.std.proofs.lemmas.Result.{err_from_is_err_and}
use Rattle.std.proofs.lemmas.Bool.{false≢true}
use Rattle.uca_rules.specs.Statements.{HasRangesSoFar}
use Rattle.uca_rules.proofs.TextSteps.{within_some, read_more, takes_shorter, front_of_none, front_of_some, breaks_off, hyphen_cause, end_cause, read_none, no_ranges, begins_so, ranges_end, some_points}
use Rattle.uca_rules.proofs.texts.read_text.Goals as goal
use Rattle.uca_rules.proofs.texts.read_text.Goals.{in_default-via-in-Some+else-starred-2, in_default-via-in_default}

pub broken-requires-clause-so_far : goal.broken-requires-clause-so_far
broken-requires-clause-so_far g c = λ star.
    let old = c.loop-symbols.symbols.items in
    let count : c.len-count.result ≡ length old = search rules in
    let front = front_of_none old c.take_piece.new.symbols.items c.deref.result.now _ c.len-count.result (rw c.in-Ok-None.field-0-is at c.in-Ok-None.ensures) count c.deref.ensures.value in
    subst HasRangesSoFar (sym front) (c.loop-symbols.invariant.so_far star)

pub returns-in-Ok-None-clause-fault : goal.returns-in-Ok-None-clause-fault
returns-in-Ok-None-clause-fault g c =
    let old = c.loop-symbols.symbols.items in
    let count : c.len-count.result ≡ length old = search rules in
    let none = rw c.in-Ok-None.field-0-is at c.in-Ok-None.ensures in
    let front = front_of_none old c.take_piece.new.symbols.items c.deref.result.now _ c.len-count.result none count c.deref.ensures.value in
    inr (breaks_off c.args.end c.args.starred c.args.text.now c.loop-symbols.rest.now old c.broken.result.byte c.broken.result.kind c.loop-symbols.invariant.read none.0 (rw front at c.broken.ensures))

pub test_hyphens-requires-clause-so_far : goal.test_hyphens-requires-clause-so_far
test_hyphens-requires-clause-so_far g c =
    let old = c.loop-symbols.symbols.items in
    let count : c.len-count.result ≡ length old = search rules in
    let front = front_of_some old c.take_piece.new.symbols.items c.deref-then-starred.result.now _ _ c.len-count.result (rw c.in-Ok-Some.field-0-is at c.in-Ok-Some.ensures) count c.deref-then-starred.ensures.value in
    subst HasRangesSoFar (sym front) (c.loop-symbols.invariant.so_far c.if-starred.true)

pub returns-in_err-begins_text-clause-fault : goal.returns-in_err-begins_text-clause-fault
returns-in_err-begins_text-clause-fault g c =
    let p = err_from_is_err_and c.from_residual.result c.from_residual.ensures.1 in
    rw (p.1, p.2) (inr c.in_err-begins_text.ensures.fault)

pub returns-in_err-test_hyphens-clause-fault : goal.returns-in_err-test_hyphens-clause-fault
returns-in_err-test_hyphens-clause-fault g c =
    let p = err_from_is_err_and c.from_residual-in_err-test_hyphens.result c.from_residual-in_err-test_hyphens.ensures.1 in
    let fault = c.in_err-test_hyphens.ensures.fault in
    let read = read_more c.args.starred c.args.text.now c.loop-symbols.rest.now c.in-Ok-Some.after.now c.loop-symbols.symbols.items c.take_piece.new.symbols.items c.loop-symbols.invariant.read (rw c.in-Ok-Some.field-0-is at c.in-Ok-Some.ensures) in
    rw (p.1, p.2) (inr (hyphen_cause c.args.end c.args.starred c.args.text.now c.in-Ok-Some.after.now c.take_piece.new.symbols.items c.in_err-test_hyphens.field-0.0.byte c.in_err-test_hyphens.field-0.0.kind c.if-starred.true fault.0 read
    (rw c.deref-then-starred.ensures.value at fault.1)))

pub loop-symbols-smaller-in-Continue-branch-2 : goal.loop-symbols-smaller-in-Continue-branch-2
loop-symbols-smaller-in-Continue-branch-2 g c =
    takes_shorter c.args.starred c.loop-symbols.rest.now c.in-Ok-Some.after.now c.loop-symbols.symbols.items c.take_piece.new.symbols.items (rw c.in-Ok-Some.field-0-is at c.in-Ok-Some.ensures)

pub loop-symbols-preserved-in-Continue-branch-2 : goal.loop-symbols-preserved-in-Continue-branch-2
loop-symbols-preserved-in-Continue-branch-2 g c = record {
  read = read_more c.args.starred c.args.text.now c.loop-symbols.rest.now c.in-Ok-Some.after.now c.loop-symbols.symbols.items c.take_piece.new.symbols.items c.loop-symbols.invariant.read (rw c.in-Ok-Some.field-0-is at c.in-Ok-Some.ensures);
  so_far = λ star. subst HasRangesSoFar c.deref-then-starred.ensures.value c.in_ok-test_hyphens.ensures.found;
}

pub loop-symbols-smaller : goal.loop-symbols-smaller
loop-symbols-smaller g c =
    takes_shorter c.args.starred c.loop-symbols.rest.now c.in-Ok-Some.after.now c.loop-symbols.symbols.items c.take_piece.new.symbols.items (rw c.in-Ok-Some.field-0-is at c.in-Ok-Some.ensures)

pub loop-symbols-preserved : goal.loop-symbols-preserved
loop-symbols-preserved g c = record {
  read = read_more c.args.starred c.args.text.now c.loop-symbols.rest.now c.in-Ok-Some.after.now c.loop-symbols.symbols.items c.take_piece.new.symbols.items c.loop-symbols.invariant.read (rw c.in-Ok-Some.field-0-is at c.in-Ok-Some.ensures);
  so_far = λ star. absurd (false≢true (sym c.if-starred.false ∙ star));
}

pub returns-in_default-clause-ranges : goal.returns-in_default-clause-ranges
returns-in_default-clause-ranges g c = λ star.
    elim c.in_default.branch [
      | in_default-via-in-Some+else-starred-2 w ↦ absurd (false≢true (sym w.if-starred-2.false ∙ star))
      | in_default-via-in_default w ↦
          ranges_end c.loop-symbols.symbols.items (c.loop-symbols.invariant.so_far star) (λ place ends. w.in_default.ensures place (rw c.deref-2.ensures.value ends))
    ]

pub returns-in_default-clause-found : goal.returns-in_default-clause-found
returns-in_default-clause-found g c =
    begins_so c.args.starred c.args.text.now c.loop-symbols.rest.now c.loop-symbols.symbols.items c.loop-symbols.invariant.read (c.in_ok-begins_text.ensures.found) (c.loop-symbols-test.ensures.is refl)

pub returns-in_default-clause-points : goal.returns-in_default-clause-points
returns-in_default-clause-points g c = λ plain.
    some_points c.args.starred c.args.text.now c.loop-symbols.symbols.items c.loop-symbols.rest.now plain
    (begins_so c.args.starred c.args.text.now c.loop-symbols.rest.now c.loop-symbols.symbols.items c.loop-symbols.invariant.read (c.in_ok-begins_text.ensures.found) (c.loop-symbols-test.ensures.is refl))

pub loop-symbols-init : goal.loop-symbols-init
loop-symbols-init g c = record {
  read = read_none c.args.starred c.args.text.now c.clear.new.self.items c.clear.ensures.items;
  so_far = λ star. no_ranges c.clear.new.self.items c.clear.ensures.items;
}

pub returns-in-Some-clause-fault : goal.returns-in-Some-clause-fault
returns-in-Some-clause-fault g c =
    inr (end_cause c.args.end c.args.starred c.args.text.now c.loop-symbols.rest.now c.loop-symbols.symbols.items c.in-Some.byte c.if-starred-2.true c.loop-symbols.invariant.read
    (c.loop-symbols-test.ensures.is refl) (rw c.deref-2.ensures.value at c.in-Some.ensures))

pub test_hyphens-requires-clause-within : goal.test_hyphens-requires-clause-within
test_hyphens-requires-clause-within g c =
    let old = c.loop-symbols.symbols.items in
    let count : c.len-count.result ≡ length old = search rules in
    within_some old c.take_piece.new.symbols.items c.deref-then-starred.result.now _ _ c.len-count.result (rw c.in-Ok-Some.field-0-is at c.in-Ok-Some.ensures) count c.deref-then-starred.ensures.value

pub returns-in-Err-clause-fault : goal.returns-in-Err-clause-fault
returns-in-Err-clause-fault g c = inl (refl, c.place_of-place.ensures)
