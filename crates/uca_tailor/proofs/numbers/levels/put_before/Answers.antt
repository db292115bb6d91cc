-- The weight goes into the next run, or into a run of its own.
use Rattle.std.proofs.Common.{◌≡◌, refl, ◌+◌, ◌-◌, ◌<◌, [], ◌∷◌, ◌++◌, length, reverse, arith, sym, ap, subst, ◌∙◌, Vec}
use Rattle.std.specs.Vec.{vec_len}
use Rattle.std.specs.List.{AllByRecursion}
use Rattle.uca_weights.specs.declared.maps.Run.{Run}
use Rattle.uca_tailor.specs.inside.NumberTables.{EndsLow}
use Rattle.uca_tailor.proofs.NumberLemmas.RunLaws.{grown, alone, first_run, has_room, before_low}
use Rattle.uca_tailor.proofs.numbers.levels.put_before.Goals as goal
use Rattle.uca_tailor.proofs.numbers.levels.put_before.Goals.{in-Some+else-goes_on, in_default}

pub overflow_add-next : goal.overflow_add-next
overflow_add-next g c =
    let some : 0 < vec_len c.args.runs.now = c.in-Some.ensures.variant.0 refl in
    let last : (vec_len c.args.runs.now - 1) + 1 ≡ length c.args.runs.now.items = omega (arith, c.args.runs.now.ok.0) in
    let room = has_room c.args.runs.now.items (vec_len c.args.runs.now - 1) c.in-Some.next.now c.args.from c.args.to last
    c.in-Some.ensures.value (sym c.goes_on.ensures ∙ c.if-goes_on.true) c.requires.some c.requires.low in
    omega (arith, room)

pub returns-then-goes_on-clause-runs : goal.returns-then-goes_on-clause-runs
returns-then-goes_on-clause-runs g c =
    let some : 0 < vec_len c.args.runs.now = c.in-Some.ensures.variant.0 refl in
    let last : (vec_len c.args.runs.now - 1) + 1 ≡ length c.args.runs.now.items = omega (arith, c.args.runs.now.ok.0) in
    grown c.args.runs.now.items (vec_len c.args.runs.now - 1) c.in-Some.next.now c.args.from c.args.to last
    c.in-Some.ensures.value (sym c.goes_on.ensures ∙ c.if-goes_on.true)

pub returns-then-goes_on-clause-low : goal.returns-then-goes_on-clause-low
returns-then-goes_on-clause-low g c =
    subst (AllByRecursion EndsLow) (sym (returns-then-goes_on-clause-runs g c))
    (before_low c.args.from c.args.to (reverse c.args.runs.now.items) (omega arith) c.requires.low)

pub returns-clause-runs : goal.returns-clause-runs
returns-clause-runs g c =
    let runs = c.args.runs.now.items in
    let one : Run = record { from = c.args.from; to = c.args.to; count = 1 } in
    elim c.match-last_mut.branch [
      | in-Some+else-goes_on w ↦
          let some : 0 < vec_len c.args.runs.now = w.in-Some.ensures.variant.0 refl in
          alone runs c.push.new.self.items (vec_len c.args.runs.now - 1) w.in-Some.next.now c.args.from c.args.to (omega (arith, c.args.runs.now.ok.0))
          w.in-Some.ensures.value (sym w.goes_on.ensures ∙ w.if-goes_on.false)
          (c.in_ok-push.ensures.items ∙ ap (λ (v : Vec Run g.row.A.Denot). v.items ++ one ∷ []) w.runs-is)
      | in_default w ↦
          first_run runs c.push.new.self.items (vec_len c.args.runs.now) c.args.from c.args.to (omega (arith, c.args.runs.now.ok.0)) w.in_default.ensures.variant.1
          (c.in_ok-push.ensures.items ∙ ap (λ (v : Vec Run g.row.A.Denot). v.items ++ one ∷ []) w.runs-is)
    ]

pub returns-clause-low : goal.returns-clause-low
returns-clause-low g c =
    subst (AllByRecursion EndsLow) (sym (returns-clause-runs g c))
    (before_low c.args.from c.args.to (reverse c.args.runs.now.items) (omega arith) c.requires.low)
