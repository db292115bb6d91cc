use Rattle.std.proofs.Common.{[], refl, arith}
use Rattle.uca_lines.proofs.BufferedLemmas.{part, written_none, part_fits, part_written, returns_fault, returns_last}
use Rattle.uca_run_parts.proofs.PrintLemmas.{keyed_parts, keyed_is}
use Rattle.uca_run_parts.proofs.print.print_keyed_line.Goals as goal

pub write_digits-requires : goal.write_digits-requires
write_digits-requires g c = part_fits part (keyed_parts c.args.key.now c.args.line.now) 0 [] _ _ (keyed_is c.args.key.now c.args.line.now) refl (omega arith)
    (written_none c.args.buffer.now c.args.out.now) c.requires

pub returns-in_err-write_digits : goal.returns-in_err-write_digits
returns-in_err-write_digits g c = returns_fault part (keyed_parts c.args.key.now c.args.line.now) 0 [] _ _ c.from_residual.result
    (keyed_is c.args.key.now c.args.line.now) refl (omega arith) (written_none c.args.buffer.now c.args.out.now) c.in_err-write_digits.ensures c.from_residual.ensures.1

pub write-requires : goal.write-requires
write-requires g c = part_fits part (keyed_parts c.args.key.now c.args.line.now) 1 [] _ _ (keyed_is c.args.key.now c.args.line.now) refl (omega arith)
    (part_written part (keyed_parts c.args.key.now c.args.line.now) 0 [] refl (omega arith) (written_none c.args.buffer.now c.args.out.now) c.in_ok-write_digits.ensures) c.requires

pub returns-in_err-write : goal.returns-in_err-write
returns-in_err-write g c = returns_fault part (keyed_parts c.args.key.now c.args.line.now) 1 [] _ _ c.from_residual-in_err-write.result
    (keyed_is c.args.key.now c.args.line.now) refl (omega arith)
    (part_written part (keyed_parts c.args.key.now c.args.line.now) 0 [] refl (omega arith) (written_none c.args.buffer.now c.args.out.now) c.in_ok-write_digits.ensures)
    c.in_err-write.ensures.writes c.from_residual-in_err-write.ensures.1

pub write_line-requires : goal.write_line-requires
write_line-requires g c = part_fits part (keyed_parts c.args.key.now c.args.line.now) 2 [] _ _ (keyed_is c.args.key.now c.args.line.now) refl (omega arith)
    (part_written part (keyed_parts c.args.key.now c.args.line.now) 1 [] refl (omega arith)
    (part_written part (keyed_parts c.args.key.now c.args.line.now) 0 [] refl (omega arith) (written_none c.args.buffer.now c.args.out.now) c.in_ok-write_digits.ensures)
    c.in_ok-write.ensures.writes) c.requires

pub returns : goal.returns
returns g c = returns_last part (keyed_parts c.args.key.now c.args.line.now) 2 [] _ _ _ _ c.write_line.result (keyed_is c.args.key.now c.args.line.now) refl (omega arith)
    (part_written part (keyed_parts c.args.key.now c.args.line.now) 1 [] refl (omega arith)
    (part_written part (keyed_parts c.args.key.now c.args.line.now) 0 [] refl (omega arith) (written_none c.args.buffer.now c.args.out.now) c.in_ok-write_digits.ensures)
    c.in_ok-write.ensures.writes) c.write_line.ensures.writes
