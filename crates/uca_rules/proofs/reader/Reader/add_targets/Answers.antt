-- One symbol more, and all of them.
use Rattle.std.proofs.Common.{◌≡◌, ℕ, List, slice_index_or, sym, subst}
use Rattle.std.proofs.lemmas.List.{take_all}
use Rattle.std.proofs.lemmas.Result.{err_from_is_err_and}
use Rattle.uca_relations.specs.Relations.{IsRuleText}
use Rattle.uca_rules.specs.declared.characters.Character.{Character}
use Rattle.uca_rules.specs.declared.reader.Reader.{Reader}
use Rattle.uca_rules.specs.Pieces.{Symbol, Literal, Hyphen}
use Rattle.uca_rules.specs.Statements.{Starred, between, targets_of}
use Rattle.uca_rules.specs.inside.Reading.{Adds, IsReady}
use Rattle.uca_rules.proofs.StarredLemmas.{Before, adds_character, adds_none, fault_in_range, fault_of_character, further_hyphen, further_range, no_literal, none_before, range_at, range_before}
use Rattle.uca_rules.proofs.reader.Reader.add_targets.Goals as goal
use Rattle.uca_rules.proofs.reader.Reader.add_targets.Goals.{in-Some+in_ok-add_between, in_default-open_range}

-- what a read past the end would give
abbrev none : Symbol
none = Literal (record { code = 0; place = 0 })

pub loop-at-preserved-in_default : goal.loop-at-preserved-in_default
loop-at-preserved-in_default g c =
    let symbols : List Symbol = c.args.symbols.now in
    let hyphen : (p : ℕ) × (slice_index_or symbols c.loop-at.at none ≡ Hyphen p) = no_literal (slice_index_or symbols c.loop-at.at none) c.in_default.not-Literal in
    subst (λ (l : List Character). Adds (Starred c.args.strength l) c.args.self.now c.loop-at.self)
    (sym (further_hyphen symbols c.loop-at.at hyphen.0 none c.loop-at-test.true hyphen.1)) c.loop-at.invariant

pub add_between-requires-clause-range : goal.add_between-requires-clause-range
add_between-requires-clause-range g c =
    range_at c.args.symbols.now c.loop-at.at c.in-Some.ensures.found.0 c.in-Some.start c.in-Some.place c.in-Literal.c none c.requires.ranges c.loop-at-test.true
    c.in-Some.ensures.found.1 c.in-Literal.is

pub returns-in_err-add_between-clause-fault : goal.returns-in_err-add_between-clause-fault
returns-in_err-add_between-clause-fault g c =
    let p = err_from_is_err_and c.from_residual.result c.from_residual.ensures.1 in
    let symbols : List Symbol = c.args.symbols.now in
    let at : ℕ = c.loop-at.at in
    rw (p.1, p.2)
    (fault_in_range c.args.strength symbols at c.in-Literal.c (between c.in-Some.place c.in-Some.start.code c.in-Literal.c.code) c.args.here c.in_err-add_between.field-0.0 c.args.self.now c.loop-at.self
    (further_range symbols at c.in-Some.ensures.found.0 c.in-Some.start c.in-Some.place c.in-Literal.c none c.loop-at-test.true c.in-Some.ensures.found.1 c.in-Literal.is)
    c.loop-at.invariant c.in_err-add_between.ensures.fault)

pub returns-in_err-add_character-clause-fault : goal.returns-in_err-add_character-clause-fault
returns-in_err-add_character-clause-fault g c =
    let p = err_from_is_err_and c.from_residual-in_err-add_character.result c.from_residual-in_err-add_character.ensures.1 in
    let symbols : List Symbol = c.args.symbols.now in
    let at : ℕ = c.loop-at.at in
    let before : Before c.args.strength symbols at c.in-Literal.c c.args.self.now c.match-open_range.self =
    elim c.match-open_range.branch [
      | in-Some+in_ok-add_between w ↦
          subst (λ (r : Reader g.row.A.Denot g.row.T.Denot). Before c.args.strength symbols at c.in-Literal.c c.args.self.now r) (sym w.self-is)
          (range_before c.args.strength symbols at w.in-Some.ensures.found.0 w.in-Some.start w.in-Some.place c.in-Literal.c none c.args.self.now c.loop-at.self w.add_between.new.self
          c.loop-at-test.true w.in-Some.ensures.found.1 c.in-Literal.is c.loop-at.invariant w.in_ok-add_between.ensures.added)
      | in_default-open_range w ↦
          subst (λ (r : Reader g.row.A.Denot g.row.T.Denot). Before c.args.strength symbols at c.in-Literal.c c.args.self.now r) (sym w.self-is)
          (none_before c.args.strength symbols at c.in-Literal.c none c.args.self.now c.loop-at.self c.loop-at-test.true w.in_default-open_range.ensures.none c.in-Literal.is c.loop-at.invariant)
    ] in
    rw (p.1, p.2)
    (fault_of_character c.args.strength symbols at c.in-Literal.c c.args.here c.in_err-add_character.field-0.0 c.args.self.now c.match-open_range.self before c.in_err-add_character.ensures.fault)

pub loop-at-preserved : goal.loop-at-preserved
loop-at-preserved g c =
    let symbols : List Symbol = c.args.symbols.now in
    let at : ℕ = c.loop-at.at in
    let before : Before c.args.strength symbols at c.in-Literal.c c.args.self.now c.match-open_range.self =
    elim c.match-open_range.branch [
      | in-Some+in_ok-add_between w ↦
          subst (λ (r : Reader g.row.A.Denot g.row.T.Denot). Before c.args.strength symbols at c.in-Literal.c c.args.self.now r) (sym w.self-is)
          (range_before c.args.strength symbols at w.in-Some.ensures.found.0 w.in-Some.start w.in-Some.place c.in-Literal.c none c.args.self.now c.loop-at.self w.add_between.new.self
          c.loop-at-test.true w.in-Some.ensures.found.1 c.in-Literal.is c.loop-at.invariant w.in_ok-add_between.ensures.added)
      | in_default-open_range w ↦
          subst (λ (r : Reader g.row.A.Denot g.row.T.Denot). Before c.args.strength symbols at c.in-Literal.c c.args.self.now r) (sym w.self-is)
          (none_before c.args.strength symbols at c.in-Literal.c none c.args.self.now c.loop-at.self c.loop-at-test.true w.in_default-open_range.ensures.none c.in-Literal.is c.loop-at.invariant)
    ] in
    adds_character c.args.strength symbols at c.in-Literal.c c.args.self.now c.match-open_range.self c.add_character.new.self before c.in_ok-add_character.ensures.added

pub returns-clause-added : goal.returns-clause-added
returns-clause-added g c =
    subst (λ (l : List Symbol). Adds (Starred c.args.strength (targets_of l)) c.args.self.now c.loop-at.self)
    (take_all c.loop-at.at c.args.symbols.now c.loop-at-test.false) c.loop-at.invariant

pub loop-at-init : goal.loop-at-init
loop-at-init g c = adds_none c.args.strength c.args.self.now c.requires.ready c.requires.anchored

pub add_between-requires-clause-ready : goal.add_between-requires-clause-ready
add_between-requires-clause-ready g c = record { growing = c.loop-at.invariant.growing; anchored = λ _. c.loop-at.invariant.anchored }

pub add_character-requires-clause-ready : goal.add_character-requires-clause-ready
add_character-requires-clause-ready g c =
    elim c.match-open_range.branch [
      | in-Some+in_ok-add_between w ↦
          let added = w.in_ok-add_between.ensures.added in
          subst (λ (r : Reader g.row.A.Denot g.row.T.Denot). IsReady r) (sym w.self-is)
          (record { growing = added.growing; anchored = λ _. added.anchored })
      | in_default-open_range w ↦
          let added = c.loop-at.invariant in
          subst (λ (r : Reader g.row.A.Denot g.row.T.Denot). IsReady r) (sym w.self-is)
          (record { growing = added.growing; anchored = λ _. added.anchored })
    ]

pub add_character-requires-clause-anchored : goal.add_character-requires-clause-anchored
add_character-requires-clause-anchored g c =
    elim c.match-open_range.branch [
      | in-Some+in_ok-add_between w ↦
          subst (λ (r : Reader g.row.A.Denot g.row.T.Denot). IsRuleText r.anchor) (sym w.self-is) w.in_ok-add_between.ensures.added.anchored
      | in_default-open_range w ↦ subst (λ (r : Reader g.row.A.Denot g.row.T.Denot). IsRuleText r.anchor) (sym w.self-is) c.loop-at.invariant.anchored
    ]
