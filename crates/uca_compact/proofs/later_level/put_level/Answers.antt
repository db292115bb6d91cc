-- The run at the beginning, more of them, one weight more, and the end.
use Rattle.std.proofs.Common.{◌≡◌, ℕ, [], ◌∷◌, ◌+◌, ◌*◌, ◌<◌, ◌++◌, take, ap₂, subst, sym, refl, ◌∙◌, arith}
use Rattle.std.proofs.lemmas.List.{take_more_set}
use Rattle.uca_compact.specs.Forms.{step}
use Rattle.uca_compact.specs.Programs.{form_of}
use Rattle.uca_compact.proofs.LevelsPut.{some_later, begun_later, run_later, moved_later, as_many_follow, one_later, later_put}
use Rattle.uca_compact.proofs.later_level.put_level.Goals as goal

pub loop-from-init : goal.loop-from-init
loop-from-init c =
    let least = c.min-run.ensures in
    let longest = c.from-longest.ensures in
    let some = c.requires.form.longest in
    let within = c.requires.run.within in
    record {
      written = begun_later (form_of c.args.form.now) c.args.end c.args.level.now (take c.args.at c.args.codes.now) c.min-run.result c.requires.level
          (λ k below. c.requires.run.are k (omega (arith, below, least))) (omega (arith, within, least)) (omega (arith, least, longest, some));
      marks = c.requires.marks;
      room = omega arith;
      codes = refl;
    }

pub loop-from-preserved-then-from-rest : goal.loop-from-preserved-then-from-rest
loop-from-preserved-then-from-rest c =
    let i = c.loop-from.invariant in
    let f = form_of c.args.form.now in
    let front = take c.args.at c.args.codes.now in
    let out = take c.loop-from.put c.loop-from.codes in
    let marked = c.with_marks.ensures in
    let found = c.run_of_marked-more.ensures.run c.args.form.now.common marked.marks in
    let few = c.run_of_marked-more.ensures.few in
    let within = c.run_of_marked-more.ensures.within in
    let longest = c.from-longest.ensures in
    let short = i.written.short in
    let written = run_later f c.args.end c.args.level.now c.with_marks.result.0.now front out c.with_marks.result.1 c.loop-from.run c.run_of_marked-more.result
    (moved_later f c.args.end c.args.level.now c.loop-from.rest.now c.with_marks.result.0.now front out c.loop-from.from c.with_marks.result.1 c.loop-from.run i.written
    marked.same marked.within marked.at marked.rest) found.are (omega (arith, within)) (omega (arith, few, longest, short)) in
    let follow = as_many_follow c.loop-from.rest.now c.with_marks.result.0.now c.loop-from.from c.with_marks.result.1 marked.same i.written.before.within marked.within in
    let room = i.room in
    record {
      written = written;
      marks = marked.marks;
      room = omega (arith, room, follow);
      codes = i.codes;
    }

pub put_weight-next-requires-clause-weight : goal.put_weight-next-requires-clause-weight
put_weight-next-requires-clause-weight c =
    let i = c.loop-from.invariant in
    let f = form_of c.args.form.now in
    let front = take c.args.at c.args.codes.now in
    let out = take c.loop-from.put c.loop-from.codes in
    let marked = c.with_marks.ensures in
    let found = c.run_of_marked-more.ensures.run c.args.form.now.common marked.marks in
    let few = c.run_of_marked-more.ensures.few in
    let within = c.run_of_marked-more.ensures.within in
    let longest = c.from-longest.ensures in
    let short = i.written.short in
    let written = run_later f c.args.end c.args.level.now c.with_marks.result.0.now front out c.with_marks.result.1 c.loop-from.run c.run_of_marked-more.result
    (moved_later f c.args.end c.args.level.now c.loop-from.rest.now c.with_marks.result.0.now front out c.loop-from.from c.with_marks.result.1 c.loop-from.run i.written
    marked.same marked.within marked.at marked.rest) found.are (omega (arith, within)) (omega (arith, few, longest, short)) in
    let follow = as_many_follow c.loop-from.rest.now c.with_marks.result.0.now c.loop-from.from c.with_marks.result.1 marked.same i.written.before.within marked.within in
    let last = c.if-from-rest.false in
    let inside = written.before.within in
    subst (λ (n : ℕ). 0 < n) (sym c.weight_at-weight.ensures.is)
    (some_later c.args.level.now c.with_marks.result.0.now written.weights (c.with_marks.result.1 + 2 * c.run_of_marked-more.result) c.requires.level written.before
    (omega (arith, last, inside)))

pub loop-from-smaller : goal.loop-from-smaller
loop-from-smaller c =
    let i = c.loop-from.invariant in
    let f = form_of c.args.form.now in
    let front = take c.args.at c.args.codes.now in
    let out = take c.loop-from.put c.loop-from.codes in
    let marked = c.with_marks.ensures in
    let found = c.run_of_marked-more.ensures.run c.args.form.now.common marked.marks in
    let few = c.run_of_marked-more.ensures.few in
    let within = c.run_of_marked-more.ensures.within in
    let longest = c.from-longest.ensures in
    let short = i.written.short in
    let written = run_later f c.args.end c.args.level.now c.with_marks.result.0.now front out c.with_marks.result.1 c.loop-from.run c.run_of_marked-more.result
    (moved_later f c.args.end c.args.level.now c.loop-from.rest.now c.with_marks.result.0.now front out c.loop-from.from c.with_marks.result.1 c.loop-from.run i.written
    marked.same marked.within marked.at marked.rest) found.are (omega (arith, within)) (omega (arith, few, longest, short)) in
    let follow = as_many_follow c.loop-from.rest.now c.with_marks.result.0.now c.loop-from.from c.with_marks.result.1 marked.same i.written.before.within marked.within in
    let last = c.if-from-rest.false in
    let inside = written.before.within in
    omega (arith, follow, last, inside)

pub loop-from-preserved : goal.loop-from-preserved
loop-from-preserved c =
    let i = c.loop-from.invariant in
    let f = form_of c.args.form.now in
    let front = take c.args.at c.args.codes.now in
    let out = take c.loop-from.put c.loop-from.codes in
    let marked = c.with_marks.ensures in
    let found = c.run_of_marked-more.ensures.run c.args.form.now.common marked.marks in
    let few = c.run_of_marked-more.ensures.few in
    let within = c.run_of_marked-more.ensures.within in
    let longest = c.from-longest.ensures in
    let short = i.written.short in
    let written = run_later f c.args.end c.args.level.now c.with_marks.result.0.now front out c.with_marks.result.1 c.loop-from.run c.run_of_marked-more.result
    (moved_later f c.args.end c.args.level.now c.loop-from.rest.now c.with_marks.result.0.now front out c.loop-from.from c.with_marks.result.1 c.loop-from.run i.written
    marked.same marked.within marked.at marked.rest) found.are (omega (arith, within)) (omega (arith, few, longest, short)) in
    let follow = as_many_follow c.loop-from.rest.now c.with_marks.result.0.now c.loop-from.from c.with_marks.result.1 marked.same i.written.before.within marked.within in
    let last = c.if-from-rest.false in
    let inside = written.before.within in
    let room = i.room in
    let more = c.put_weight-next.ensures.few in
    record {
      written = one_later f c.args.end c.args.level.now c.with_marks.result.0.now front out _ (c.with_marks.result.1 + 2 * c.run_of_marked-more.result)
          (c.loop-from.run + c.run_of_marked-more.result) c.put_weight-next.result.1 c.weight_at-weight.result written (omega (arith, last, inside)) c.weight_at-weight.ensures.is
          c.put_weight-next.ensures.put c.put_weight-next.ensures.run c.put_weight-next.ensures.short;
      marks = marked.marks;
      room = omega (arith, room, more, follow);
      codes = c.put_weight-next.auto.codes ∙ i.codes;
    }

pub returns-clause-put : goal.returns-clause-put
returns-clause-put c =
    let i = c.loop-from.invariant in
    let f = form_of c.args.form.now in
    let room = i.room in
    let codes = i.codes in
    let within = i.written.before.within in
    let enough = c.requires.room in
    let out = take c.loop-from.put c.loop-from.codes in
    let ends : c.from.result + 1 ≡ step f = (let is = c.from.ensures in omega (arith, is)) in
    later_put f c.args.end c.args.level.now c.loop-from.rest.now (take c.args.at c.args.codes.now) out _ c.loop-from.from c.loop-from.run i.written (omega (arith, c.loop-from-test.false))
    (take_more_set c.loop-from.codes c.loop-from.put _ (omega (arith, room, codes, within, enough))
    ∙ ap₂ (λ (n m : ℕ). out ++ (c.loop-from.run * n + m) ∷ []) ends c.from-2.ensures)
