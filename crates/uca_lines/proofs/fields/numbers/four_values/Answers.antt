use Rattle.std.proofs.Common.{arith}
use Rattle.uca_lines.specs.inside.DigitValues.{number_or_more}
use Rattle.uca_lines.proofs.fields.numbers.four_values.Goals as goal

pub returns-clause-number : goal.returns-clause-number
unfolding number_or_more
returns-clause-number c = omega (arith, c.value.ensures.value, c.value-2.ensures.value, c.value-3.ensures.value, c.value-4.ensures.value)
