-- The text of the symbols, and how long it is.
use Rattle.std.proofs.Common.{inr, refl, ◌∙◌, ap, arith, length}
use Rattle.uca_values.specs.Content.{properties_of}
use Rattle.uca_rules.specs.Pieces.{points_of}
use Rattle.uca_rules.proofs.Hyphens.{no_symbol}
use Rattle.uca_rules.proofs.RuleTexts.{literal_more, hyphen_more, points_all, short_text, too_long, long_run}
use Rattle.uca_rules.proofs.texts.rule_text.Goals as goal
use Rattle.uca_rules.proofs.texts.rule_text.Goals.{in-Literal+in_ok-push, in_default}

pub loop-symbol-preserved : goal.loop-symbol-preserved
loop-symbol-preserved g c =
    elim c.match-symbol.branch [
      | in-Literal+in_ok-push w ↦
          rw w.letters-is (literal_more c.args.symbols.now c.loop-symbol.symbol-index no_symbol w.in-Literal.c _ _ c.loop-symbol-test.true w.in-Literal.is w.in_ok-push.ensures.bytes c.loop-symbol.invariant)
      | in_default w ↦
          rw w.letters-is (hyphen_more c.args.symbols.now c.loop-symbol.symbol-index no_symbol w.in_default.field-0 _ c.loop-symbol-test.true w.in_default.is c.loop-symbol.invariant)
    ]

pub returns-then-chars-le-MOST_CODE_POINTS-clause-found : goal.returns-then-chars-le-MOST_CODE_POINTS-clause-found
returns-then-chars-le-MOST_CODE_POINTS-clause-found g c =
    let points = points_all c.args.symbols.now c.loop-symbol.symbol-index c.deref.result.now c.loop-symbol-test.false (c.deref.ensures ∙ c.loop-symbol.invariant) c.deref.utf8 in
    let found = rw points at c.in-Ok.ensures.found in
    (found, short_text (properties_of c.args.properties.now) (points_of c.args.symbols.now) c.in-Ok.text found c.in-Ok.ensures.accepted c.chars.ensures.scalars c.requires (omega (arith, ap length c.chars.ensures.value, c.if-chars-le-MOST_CODE_POINTS.true)))

pub returns-else-chars-le-MOST_CODE_POINTS-clause-fault : goal.returns-else-chars-le-MOST_CODE_POINTS-clause-fault
returns-else-chars-le-MOST_CODE_POINTS-clause-fault g c =
    let points = points_all c.args.symbols.now c.loop-symbol.symbol-index c.deref.result.now c.loop-symbol-test.false (c.deref.ensures ∙ c.loop-symbol.invariant) c.deref.utf8 in
    let found = rw points at c.in-Ok.ensures.found in
    inr (refl, omega (arith, ap length c.chars.ensures.value, ap (λ s. length s.points) found, c.if-chars-le-MOST_CODE_POINTS.false))

pub returns-in-Err-TooLong-clause-fault : goal.returns-in-Err-TooLong-clause-fault
returns-in-Err-TooLong-clause-fault g c =
    let points = points_all c.args.symbols.now c.loop-symbol.symbol-index c.deref.result.now c.loop-symbol-test.false (c.deref.ensures ∙ c.loop-symbol.invariant) c.deref.utf8 in
    inr (refl, too_long (properties_of c.args.properties.now) (points_of c.args.symbols.now) (rw (points, c.in-Err-TooLong.is, c.in-Err-TooLong.field-0-is) at c.normal.ensures.fault))

pub returns-in-Err-LongRun-clause-fault : goal.returns-in-Err-LongRun-clause-fault
returns-in-Err-LongRun-clause-fault g c =
    let points = points_all c.args.symbols.now c.loop-symbol.symbol-index c.deref.result.now c.loop-symbol-test.false (c.deref.ensures ∙ c.loop-symbol.invariant) c.deref.utf8 in
    inr (refl, long_run (properties_of c.args.properties.now) (points_of c.args.symbols.now) c.in-Err-LongRun.field-0-0 (rw (points, c.in-Err-LongRun.is, c.in-Err-LongRun.field-0-is) at c.normal.ensures.fault))
