-- The values of five and six bytes by their positions.
use Rattle.std.proofs.Common.{arith}
use Rattle.uca_lines.proofs.DigitValues.{five_values, six_values}
use Rattle.uca_lines.proofs.fields.numbers.number_or_more.Goals as goal

pub returns-in-len5 : goal.returns-in-len5
returns-in-len5 c =
    omega (arith, five_values c.args.word.now (omega arith), c.four_values-in-len5.ensures.number, c.value.ensures.value)

pub returns-in-len6 : goal.returns-in-len6
returns-in-len6 c =
    omega (
      arith,
      six_values c.args.word.now (omega arith),
      c.four_values-in-len6.ensures.number,
      c.value-in-len6.ensures.value,
      c.value-in-len6-2.ensures.value,
    )
