-- The front has a digit, or what comes after it does.
use Rattle.std.proofs.Common.{◌||◌, sym, ap, ◌∙◌}
use Rattle.uca_numbers.specs.Texts.{has_digit}
use Rattle.uca_numbers.proofs.Bytes.{front_and_more}
use Rattle.uca_numbers.proofs.writing.has_digit_byte.Goals as goal

pub returns-then-has_digit_among : goal.returns-then-has_digit_among
returns-then-has_digit_among c =
    let front = c.in-Some.front.now in
    let more = c.in-Some.more.now in
    sym (c.loop-front.invariant
    ∙ front_and_more 8 c.loop-front.rest.now front more c.in-Some.ensures.cases.0 c.in-Some.ensures.cases.1
    ∙ ap (λ b. b || has_digit more) (sym c.has_digit_among.ensures ∙ c.if-has_digit_among.true))

pub loop-front-preserved : goal.loop-front-preserved
loop-front-preserved c =
    let front = c.in-Some.front.now in
    let more = c.in-Some.more.now in
    c.loop-front.invariant
    ∙ front_and_more 8 c.loop-front.rest.now front more c.in-Some.ensures.cases.0 c.in-Some.ensures.cases.1
    ∙ ap (λ b. b || has_digit more) (sym c.has_digit_among.ensures ∙ c.if-has_digit_among.false)
