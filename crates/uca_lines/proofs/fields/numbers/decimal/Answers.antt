-- The number so far is below 10 to the number of its digits.
use Rattle.std.proofs.Common.{sym, get_or, arith}
use Rattle.uca_weights.proofs.NumberLemmas.{grows}
use Rattle.uca_lines.specs.Numbers.{is_decimal_digit}
use Rattle.uca_lines.proofs.DigitLemmas.{number_more, decimal_small, decimal_fits}
use Rattle.uca_lines.proofs.fields.numbers.decimal.Goals as goal

pub overflow_mul-number : goal.overflow_mul-number
overflow_mul-number c = omega (arith, decimal_fits _ _ c.loop-byte.invariant.small (omega arith))

pub overflow_add-number : goal.overflow_add-number
overflow_add-number c =
    let last = get_or c.args.word.now c.loop-byte.byte-index 0 in
    omega (arith, decimal_fits _ _ c.loop-byte.invariant.small (omega arith), decimal_small last c.in_ok-number.field-0 (sym c.in_ok-number.ensures))

pub loop-byte-preserved : goal.loop-byte-preserved
loop-byte-preserved c =
    let last = get_or c.args.word.now c.loop-byte.byte-index 0 in
    record {
      read = number_more is_decimal_digit 10 c.args.word.now c.loop-byte.byte-index c.loop-byte.number c.in_ok-number.field-0 (omega arith) c.loop-byte.invariant.read (sym c.in_ok-number.ensures);
      small = grows 10 _ _ _ c.loop-byte.invariant.small (decimal_small last c.in_ok-number.field-0 (sym c.in_ok-number.ensures));
    }
