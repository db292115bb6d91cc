use Rattle.std.proofs.Common.{[], refl, arith}
use Rattle.uca_lines.proofs.BufferedLemmas.{part, written_none, part_fits, part_written, returns_fault, returns_last}
use Rattle.uca_run_parts.proofs.PrintLemmas.{line_parts, line_is}
use Rattle.uca_run_parts.proofs.print.print_key.Goals as goal

pub write_groups-requires : goal.write_groups-requires
write_groups-requires g c = part_fits part (line_parts c.args.depth c.args.key.now c.args.points.now) 0 [] _ _ (line_is c.args.depth c.args.key.now c.args.points.now) refl (omega arith)
    (written_none c.args.buffer.now c.args.out.now) c.requires

pub returns-in_err-write_groups : goal.returns-in_err-write_groups
returns-in_err-write_groups g c = returns_fault part (line_parts c.args.depth c.args.key.now c.args.points.now) 0 [] _ _ c.from_residual.result
    (line_is c.args.depth c.args.key.now c.args.points.now) refl (omega arith) (written_none c.args.buffer.now c.args.out.now) c.in_err-write_groups.ensures c.from_residual.ensures.1

pub write_level-requires : goal.write_level-requires
write_level-requires g c = part_fits part (line_parts c.args.depth c.args.key.now c.args.points.now) 1 [] _ _ (line_is c.args.depth c.args.key.now c.args.points.now) refl (omega arith)
    (part_written part (line_parts c.args.depth c.args.key.now c.args.points.now) 0 [] refl (omega arith) (written_none c.args.buffer.now c.args.out.now) c.in_ok-write_groups.ensures) c.requires

pub returns-in_err-write_level : goal.returns-in_err-write_level
returns-in_err-write_level g c = returns_fault part (line_parts c.args.depth c.args.key.now c.args.points.now) 1 [] _ _ c.from_residual-in_err-write_level.result
    (line_is c.args.depth c.args.key.now c.args.points.now) refl (omega arith)
    (part_written part (line_parts c.args.depth c.args.key.now c.args.points.now) 0 [] refl (omega arith) (written_none c.args.buffer.now c.args.out.now) c.in_ok-write_groups.ensures)
    c.in_err-write_level.ensures c.from_residual-in_err-write_level.ensures.1

pub write-requires : goal.write-requires
write-requires g c = part_fits part (line_parts c.args.depth c.args.key.now c.args.points.now) 2 [] _ _ (line_is c.args.depth c.args.key.now c.args.points.now) refl (omega arith)
    (part_written part (line_parts c.args.depth c.args.key.now c.args.points.now) 1 [] refl (omega arith)
    (part_written part (line_parts c.args.depth c.args.key.now c.args.points.now) 0 [] refl (omega arith) (written_none c.args.buffer.now c.args.out.now) c.in_ok-write_groups.ensures)
    c.in_ok-write_level.ensures) c.requires

pub returns : goal.returns
returns g c = returns_last part (line_parts c.args.depth c.args.key.now c.args.points.now) 2 [] _ _ _ _ c.write.result (line_is c.args.depth c.args.key.now c.args.points.now) refl (omega arith)
    (part_written part (line_parts c.args.depth c.args.key.now c.args.points.now) 1 [] refl (omega arith)
    (part_written part (line_parts c.args.depth c.args.key.now c.args.points.now) 0 [] refl (omega arith) (written_none c.args.buffer.now c.args.out.now) c.in_ok-write_groups.ensures)
    c.in_ok-write_level.ensures) c.write.ensures.writes
