-- A character more, two apostrophes, one, or no end.
use Rattle.std.proofs.Common.{◌≢◌, ◌+◌, ◌<◌, List, Some, length, get_or, ap, sym, ◌∙◌, arith}
use Rattle.std.proofs.lemmas.List.{take_rest}
use Rattle.uca_rules.specs.declared.characters.Character.{Character}
use Rattle.uca_rules.specs.Characters.{apostrophe}
use Rattle.uca_rules.proofs.Placing.{no_character}
use Rattle.uca_rules.proofs.Quotes.{inside_all, inside_first, inside_letter, inside_double, inside_end}
use Rattle.uca_rules.proofs.pieces.inside_quotes.Goals as goal
use Rattle.uca_rules.proofs.pieces.inside_quotes.Goals.{then-at-characters-via-then-at-characters, then-at-characters-via-else-at-characters+then-characters-at-ne39, then-c-eq39+else-at-characters+else-characters-at-ne39, else-c-eq39}

pub loop-at-init : goal.loop-at-init
loop-at-init g c = inside_first c.args.symbols.now.items c.args.characters.now

pub loop-at-preserved : goal.loop-at-preserved
loop-at-preserved g c =
    let old = c.args.symbols.now.items in
    let cs = c.args.characters.now in
    let at = c.loop-at.at in
    let i = c.loop-at.invariant in
    elim c.if-c-eq39.branch [
      | then-c-eq39+else-at-characters+else-characters-at-ne39 w ↦
          inside_double old c.loop-at.symbols.items _ cs at _ no_character i (omega (arith, w.if-at-characters.false)) w.at-is w.if-c-eq39.true
          w.if-characters-at-ne39.false c.in_ok-push.ensures.items
      | else-c-eq39 w ↦ rw w.at-is (inside_letter old c.loop-at.symbols.items _ cs at no_character i c.loop-at-test.true w.if-c-eq39.false c.in_ok-push.ensures.items)
    ]

pub returns : goal.returns
returns g c =
    inside_all c.args.symbols.now.items c.loop-at.symbols.items c.args.characters.now c.loop-at.at c.loop-at.invariant c.loop-at-test.false

pub returns-then-at-characters : goal.returns-then-at-characters
returns-then-at-characters g c =
    let cs = c.args.characters.now in
    let at = c.loop-at.at in
    let other : at + 1 < length cs → (get_or cs (at + 1) no_character).code ≢ apostrophe = elim c.then-at-characters.branch [
      | then-at-characters-via-then-at-characters w ↦ λ more. absurd (omega (arith, more, w.if-at-characters.true))
      | then-at-characters-via-else-at-characters+then-characters-at-ne39 w ↦ λ more. w.if-characters-at-ne39.true
    ] in
    let end = inside_end c.args.symbols.now.items c.loop-at.symbols.items cs at no_character c.loop-at.invariant c.loop-at-test.true c.if-c-eq39.true
    other in
    (end.0, end.1 ∙ ap (λ (rest : List Character). Some (record { symbols = end.0; rest = rest })) (sym (take_rest cs (at + 1))), end.2)
