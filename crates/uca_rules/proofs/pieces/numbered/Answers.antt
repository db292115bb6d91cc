-- The number so far is below 16 to the number of its digits.
use Rattle.std.proofs.Common.{◌≡◌, ◌<◌, ◌∙◌, arith}
use Rattle.uca_rules.proofs.Placing.{no_character}
use Rattle.uca_rules.proofs.HexDigits.{number_fits, number_more, number_short, number_none, number_all}
use Rattle.uca_rules.proofs.pieces.numbered.Goals as goal

pub returns-then-characters-count-clause-number : goal.returns-then-characters-count-clause-number
returns-then-characters-count-clause-number c = number_short c.args.characters.now c.args.count c.if-characters-count.true

pub overflow_mul-value : goal.overflow_mul-value
overflow_mul-value c = omega (arith, number_fits c.loop-at.value c.loop-at.at c.loop-at.invariant.small (omega arith))

pub returns-in_err-value-clause-number : goal.returns-in_err-value-clause-number
returns-in_err-value-clause-number c =
    c.from_residual.ensures ∙ number_none c.args.characters.now c.args.count c.loop-at.at no_character (omega arith) (omega arith) c.in_err-value.ensures.value

pub overflow_add-value : goal.overflow_add-value
overflow_add-value c =
    let digit = c.in_ok-value.ensures.value in
    let small : c.in_ok-value.field-0 < 16 = rw digit.1 digit.0 in
    omega (arith, number_fits c.loop-at.value c.loop-at.at c.loop-at.invariant.small (omega arith))

pub loop-at-preserved : goal.loop-at-preserved
loop-at-preserved c =
    let digit = c.in_ok-value.ensures.value in
    number_more c.args.characters.now c.loop-at.at c.loop-at.value c.in_ok-value.field-0 no_character c.loop-at.invariant (omega arith) digit.0 digit.1

pub returns-clause-number : goal.returns-clause-number
returns-clause-number c =
    let all : c.loop-at.at ≡ c.args.count = omega arith in
    let number = rw all at c.loop-at.invariant in
    number_all c.args.characters.now c.args.count c.loop-at.value c.from_u32.result number (omega arith) c.from_u32.ensures.value
