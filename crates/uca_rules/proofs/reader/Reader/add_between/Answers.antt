use Rattle.std.proofs.Common.{◌≡◌, ◌+◌, ◌-◌, ◌<◌, ℕ, List, ◌∷◌, [], sym, subst, arith}
use Rattle.std.specs.List.{range_with_len}
use Rattle.std.proofs.lemmas.Result.{err_from_is_err_and}
use Rattle.uca_rules.specs.declared.characters.Character.{Character}
use Rattle.uca_rules.specs.declared.reader.Reader.{Reader}
use Rattle.uca_rules.specs.Statements.{Starred, placed_at}
use Rattle.uca_rules.specs.inside.Reading.{Adds, HasTargetFault, properties_in, state_of}
use Rattle.uca_rules.proofs.StarredLemmas.{adds_further, adds_none, fault_within, inside_range, placed_around, placed_more, ready_after}
use Rattle.uca_rules.proofs.reader.Reader.add_between.Goals as goal
use Rattle.uca_rules.proofs.reader.Reader.add_between.Goals.{in-Some+in_ok-add_character, in_default}

pub loop-point-init : goal.loop-point-init
loop-point-init g c =
    let a : ℕ = c.args.start + 1 in
    let none : 0 ≡ a - a = omega arith in
    subst (λ (n : ℕ). Adds (Starred c.args.strength (placed_at c.args.place (range_with_len a n))) c.args.self.now c.args.self.now) none
    (adds_none c.args.strength c.args.self.now c.requires.ready c.requires.anchored)

pub add_character-requires-clause-ready : goal.add_character-requires-clause-ready
add_character-requires-clause-ready g c = ready_after c.loop-point.invariant

pub add_character-requires-clause-anchored : goal.add_character-requires-clause-anchored
add_character-requires-clause-anchored g c = c.loop-point.invariant.anchored

pub returns-in_err-add_character-clause-fault : goal.returns-in_err-add_character-clause-fault
returns-in_err-add_character-clause-fault g c =
    let p = err_from_is_err_and c.from_residual.result c.from_residual.ensures.1 in
    let a : ℕ = c.args.start + 1 in
    let point : ℕ = c.loop-point.point in
    let end : ℕ = c.args.end in
    let back : List Character = placed_at c.args.place (range_with_len (point + 1) (end - (point + 1))) in
    let has : HasTargetFault (properties_in c.loop-point.self.texts) (state_of c.loop-point.self) c.args.strength (record { code = point; place = c.args.place } ∷ []) c.args.here c.in_err-add_character.field-0.0 =
    subst (λ (code : ℕ). HasTargetFault (properties_in c.loop-point.self.texts) (state_of c.loop-point.self) c.args.strength (record { code = code; place = c.args.place } ∷ []) c.args.here c.in_err-add_character.field-0.0)
    c.in-Some.ensures.value.1 c.in_err-add_character.ensures.fault in
    rw (p.1, p.2)
    (subst (λ (l : List Character). HasTargetFault (properties_in c.args.self.now.texts) (state_of c.args.self.now) c.args.strength l c.args.here c.in_err-add_character.field-0.0)
    (sym (placed_around c.args.place a point end c.loop-point.auto.point c.loop-point-test.true))
    (fault_within c.args.strength (placed_at c.args.place (range_with_len a (point - a))) (record { code = point; place = c.args.place } ∷ []) back c.args.here c.in_err-add_character.field-0.0
    c.args.self.now c.loop-point.self c.loop-point.invariant has))

pub loop-point-preserved : goal.loop-point-preserved
loop-point-preserved g c =
    let a : ℕ = c.args.start + 1 in
    let point : ℕ = c.loop-point.point in
    let so_far : List Character = placed_at c.args.place (range_with_len a (point - a)) in
    elim c.match-from_u32.branch [
      | in-Some+in_ok-add_character w ↦
          let one : Adds (Starred c.args.strength (record { code = point; place = c.args.place } ∷ [])) c.loop-point.self c.match-from_u32.self =
          subst (λ (r : Reader g.row.A.Denot g.row.T.Denot). Adds (Starred c.args.strength (record { code = point; place = c.args.place } ∷ [])) c.loop-point.self r) (sym w.self-is)
          (subst (λ (code : ℕ). Adds (Starred c.args.strength (record { code = code; place = c.args.place } ∷ [])) c.loop-point.self w.add_character.new.self) w.in-Some.ensures.value.1 w.in_ok-add_character.ensures.added) in
          subst (λ (l : List Character). Adds (Starred c.args.strength l) c.args.self.now c.match-from_u32.self) (sym (placed_more c.args.place a point c.loop-point.auto.point))
          (adds_further c.args.strength so_far (record { code = point; place = c.args.place } ∷ []) c.args.self.now c.loop-point.self c.match-from_u32.self c.loop-point.invariant one)
      | in_default w ↦
          let above : c.args.start < point = omega arith in
          absurd (inside_range c.args.start c.args.end point c.requires.range above c.loop-point-test.true c.ranges.end.1.1 w.in_default.ensures.cases)
    ]

pub returns-clause-added : goal.returns-clause-added
returns-clause-added g c =
    let end : c.loop-point.point ≡ c.args.end = omega arith in
    subst (λ (n : ℕ). Adds (Starred c.args.strength (placed_at c.args.place (range_with_len (c.args.start + 1) (n - (c.args.start + 1))))) c.args.self.now c.loop-point.self) end c.loop-point.invariant
