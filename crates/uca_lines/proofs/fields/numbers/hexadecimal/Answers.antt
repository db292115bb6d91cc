-- A number below the value of a byte that is no digit is that of digits.
use Rattle.std.proofs.Common.{sym, arith}
use Rattle.uca_lines.proofs.DigitValues.{hex_read, hex_not_read, hex-lt}
use Rattle.uca_lines.proofs.fields.numbers.hexadecimal.Goals as goal

pub returns-then-number-ge-NO-clause-number : goal.returns-then-number-ge-NO-clause-number
returns-then-number-ge-NO-clause-number c = sym (hex_not_read c.args.word.now c.requires.most (omega arith))

pub returns-clause-number : goal.returns-clause-number
returns-clause-number c = rw c.number_or_more-number.ensures (sym (hex_read c.args.word.now (omega arith)))

pub returns-clause-small : goal.returns-clause-small
returns-clause-small c = hex-lt c.args.word.now _ (rw c.number_or_more-number.ensures (hex_read c.args.word.now (omega arith)))
