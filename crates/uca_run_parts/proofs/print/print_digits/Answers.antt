use Rattle.std.proofs.Common.{[], refl, arith}
use Rattle.uca_lines.proofs.BufferedLemmas.{part, written_none, part_fits, part_written, returns_fault, returns_last}
use Rattle.uca_run_parts.proofs.PrintLemmas.{digits_parts, digits_is}
use Rattle.uca_run_parts.proofs.print.print_digits.Goals as goal

pub write_digits-requires : goal.write_digits-requires
write_digits-requires g c = part_fits part (digits_parts c.args.key.now) 0 [] _ _ (digits_is c.args.key.now) refl (omega arith)
    (written_none c.args.buffer.now c.args.out.now) c.requires

pub returns-in_err-write_digits : goal.returns-in_err-write_digits
returns-in_err-write_digits g c = returns_fault part (digits_parts c.args.key.now) 0 [] _ _ c.from_residual.result
    (digits_is c.args.key.now) refl (omega arith) (written_none c.args.buffer.now c.args.out.now) c.in_err-write_digits.ensures c.from_residual.ensures.1

pub write-requires : goal.write-requires
write-requires g c = part_fits part (digits_parts c.args.key.now) 1 [] _ _ (digits_is c.args.key.now) refl (omega arith)
    (part_written part (digits_parts c.args.key.now) 0 [] refl (omega arith) (written_none c.args.buffer.now c.args.out.now) c.in_ok-write_digits.ensures) c.requires

pub returns : goal.returns
returns g c = returns_last part (digits_parts c.args.key.now) 1 [] _ _ _ _ c.write.result (digits_is c.args.key.now) refl (omega arith)
    (part_written part (digits_parts c.args.key.now) 0 [] refl (omega arith) (written_none c.args.buffer.now c.args.out.now) c.in_ok-write_digits.ensures)
    c.write.ensures.writes
