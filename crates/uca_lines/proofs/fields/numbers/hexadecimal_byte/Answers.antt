-- What two digits stand for is below the value of another byte.
use Rattle.std.proofs.Common.{◌+◌, ◌*◌, arith}
use Rattle.uca_lines.proofs.DigitValues.{digits_read, no_digits_read}
use Rattle.uca_lines.proofs.fields.numbers.hexadecimal_byte.Goals as goal

pub returns-then-number-ge-NO : goal.returns-then-number-ge-NO
returns-then-number-ge-NO c = no_digits_read c.args.high c.args.low _ (omega (arith, c.value.ensures.value, c.value-2.ensures.value)) c.if-number-ge-NO.true

pub overflow_cast-result : goal.overflow_cast-result
overflow_cast-result c =
    let read = digits_read c.args.high c.args.low (c.value.result * 16 + c.value-2.result) (omega (arith, c.value.ensures.value, c.value-2.ensures.value)) c.if-number-ge-NO.false in
    omega (arith, read.1)

pub returns : goal.returns
returns c = (digits_read c.args.high c.args.low _ (omega (arith, c.value.ensures.value, c.value-2.ensures.value)) c.if-number-ge-NO.false).0
