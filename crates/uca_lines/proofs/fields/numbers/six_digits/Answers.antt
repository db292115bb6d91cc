use Rattle.uca_lines.proofs.ManyDigits.{six_digits_are}
use Rattle.uca_lines.proofs.fields.numbers.six_digits.Goals as goal

pub returns : goal.returns
returns c = let e = six_digits_are c.args.number in cc
