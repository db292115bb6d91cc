-- A bracket, a wrong one, or none.
use Rattle.std.proofs.Common.{sym, ap, ◌∙◌, refl}
use Rattle.std.proofs.lemmas.List.{take_rest}
use Rattle.uca_rules.specs.Characters.{bracket, after_gaps}
use Rattle.uca_rules.proofs.SignLaws.{bracket_long}
use Rattle.uca_rules.proofs.StatementSteps.{bracketed, not_bracketed, nothing_at, other_at, wrong_bracket}
use Rattle.uca_rules.proofs.reader.after_ampersand.Goals as goal
use Rattle.uca_rules.proofs.reader.after_ampersand.Goals.{in_default-via-in-Some+else-c-eq91, in_default-via-in_default}

pub returns-in-None-clause-fault : goal.returns-in-None-clause-fault
returns-in-None-clause-fault c =
    (refl, wrong_bracket c.args.characters.now c.after_gaps-after.result.now c.in-Some.c.now c.requires (c.after_gaps-after.ensures ∙ ap after_gaps (take_rest c.args.characters.now 1)) c.in-Some.ensures.value c.if-c-eq91.true (sym c.bracket_at.ensures ∙ c.in-None.is))

pub returns-in-Some-bracket_at-clause-found : goal.returns-in-Some-bracket_at-clause-found
returns-in-Some-bracket_at-clause-found c =
    bracketed c.args.characters.now c.after_gaps-after.result.now c.after_gaps.result.now c.in-Some-bracket_at.strength c.requires
    (c.after_gaps-after.ensures ∙ ap after_gaps (take_rest c.args.characters.now 1)) (sym c.bracket_at.ensures ∙ c.in-Some-bracket_at.is)
    (c.after_gaps.ensures ∙ ap after_gaps (take_rest c.after_gaps-after.result.now 10))

pub returns-in_default-clause-found : goal.returns-in_default-clause-found
returns-in_default-clause-found c =
    let after = c.after_gaps-after.result.now in
    not_bracketed c.args.characters.now after c.requires (c.after_gaps-after.ensures ∙ ap after_gaps (take_rest c.args.characters.now 1))
    (elim c.in_default.branch [
      | in_default-via-in-Some+else-c-eq91 w ↦ other_at bracket after w.in-Some.c.now w.in-Some.ensures.value w.if-c-eq91.false
      | in_default-via-in_default w ↦ nothing_at bracket after w.in_default.ensures.value
    ])

pub slice_bounds-after_gaps-start-in-Some-bracket_at : goal.slice_bounds-after_gaps-start-in-Some-bracket_at
slice_bounds-after_gaps-start-in-Some-bracket_at c =
    bracket_long c.after_gaps-after.result.now c.in-Some-bracket_at.strength (sym c.bracket_at.ensures ∙ c.in-Some-bracket_at.is)
