use Rattle.uca_lines.proofs.ManyDigits.{four_digits_are}
use Rattle.uca_lines.proofs.fields.numbers.four_digits.Goals as goal

pub returns : goal.returns
returns c = let e = four_digits_are c.args.number in cc
