use Rattle.std.proofs.Common.{[], refl, arith}
use Rattle.uca_lines.proofs.BufferedLemmas.{part, written_none, part_fits, part_written, returns_fault, returns_last}
use Rattle.uca_table.proofs.CanonicalTexts.{range_parts, range_text_is}
use Rattle.uca_table.proofs.canonical.header.write_range.Goals as goal

pub write-requires : goal.write-requires
write-requires g c = part_fits part (range_parts c.args.range) 0 [] _ _ (range_text_is c.args.range) refl (omega arith)
    (written_none c.args.buffer.now c.args.out.now) c.requires

pub returns-in_err-write : goal.returns-in_err-write
returns-in_err-write g c = returns_fault part (range_parts c.args.range) 0 [] _ _ c.from_residual.result (range_text_is c.args.range) refl
    (omega arith) (written_none c.args.buffer.now c.args.out.now) c.in_err-write.ensures.writes c.from_residual.ensures.1

pub write_point-requires : goal.write_point-requires
write_point-requires g c = part_fits part (range_parts c.args.range) 1 [] _ _ (range_text_is c.args.range) refl (omega arith)
    (part_written part (range_parts c.args.range) 0 [] refl (omega arith) (written_none c.args.buffer.now c.args.out.now) c.in_ok-write.ensures.writes) c.requires

pub returns-in_err-write_point : goal.returns-in_err-write_point
returns-in_err-write_point g c = returns_fault part (range_parts c.args.range) 1 [] _ _ c.from_residual-in_err-write_point.result
    (range_text_is c.args.range) refl (omega arith) (part_written part (range_parts c.args.range) 0 [] refl (omega arith)
    (written_none c.args.buffer.now c.args.out.now) c.in_ok-write.ensures.writes) c.in_err-write_point.ensures c.from_residual-in_err-write_point.ensures.1

pub write-requires-2 : goal.write-requires-2
write-requires-2 g c = part_fits part (range_parts c.args.range) 2 [] _ _ (range_text_is c.args.range) refl (omega arith)
    (part_written part (range_parts c.args.range) 1 [] refl (omega arith)
    (part_written part (range_parts c.args.range) 0 [] refl (omega arith) (written_none c.args.buffer.now c.args.out.now) c.in_ok-write.ensures.writes)
    c.in_ok-write_point.ensures) c.requires

pub returns-in_err-write-2 : goal.returns-in_err-write-2
returns-in_err-write-2 g c = returns_fault part (range_parts c.args.range) 2 [] _ _ c.from_residual-in_err-write-2.result (range_text_is c.args.range)
    refl (omega arith) (part_written part (range_parts c.args.range) 1 [] refl (omega arith)
    (part_written part (range_parts c.args.range) 0 [] refl (omega arith) (written_none c.args.buffer.now c.args.out.now) c.in_ok-write.ensures.writes)
    c.in_ok-write_point.ensures) c.in_err-write-2.ensures.writes c.from_residual-in_err-write-2.ensures.1

pub write_point-requires-2 : goal.write_point-requires-2
write_point-requires-2 g c = part_fits part (range_parts c.args.range) 3 [] _ _ (range_text_is c.args.range) refl (omega arith)
    (part_written part (range_parts c.args.range) 2 [] refl (omega arith)
    (part_written part (range_parts c.args.range) 1 [] refl (omega arith)
    (part_written part (range_parts c.args.range) 0 [] refl (omega arith) (written_none c.args.buffer.now c.args.out.now) c.in_ok-write.ensures.writes)
    c.in_ok-write_point.ensures) c.in_ok-write-2.ensures.writes) c.requires

pub returns-in_err-write_point-2 : goal.returns-in_err-write_point-2
returns-in_err-write_point-2 g c = returns_fault part (range_parts c.args.range) 3 [] _ _ c.from_residual-in_err-write_point-2.result
    (range_text_is c.args.range) refl (omega arith) (part_written part (range_parts c.args.range) 2 [] refl (omega arith)
    (part_written part (range_parts c.args.range) 1 [] refl (omega arith)
    (part_written part (range_parts c.args.range) 0 [] refl (omega arith) (written_none c.args.buffer.now c.args.out.now) c.in_ok-write.ensures.writes)
    c.in_ok-write_point.ensures) c.in_ok-write-2.ensures.writes) c.in_err-write_point-2.ensures c.from_residual-in_err-write_point-2.ensures.1

pub write-requires-3 : goal.write-requires-3
write-requires-3 g c = part_fits part (range_parts c.args.range) 4 [] _ _ (range_text_is c.args.range) c.lead_end.ensures (omega arith)
    (part_written part (range_parts c.args.range) 3 [] refl (omega arith)
    (part_written part (range_parts c.args.range) 2 [] refl (omega arith)
    (part_written part (range_parts c.args.range) 1 [] refl (omega arith)
    (part_written part (range_parts c.args.range) 0 [] refl (omega arith) (written_none c.args.buffer.now c.args.out.now) c.in_ok-write.ensures.writes)
    c.in_ok-write_point.ensures) c.in_ok-write-2.ensures.writes) c.in_ok-write_point-2.ensures) c.requires

pub returns : goal.returns
returns g c = returns_last part (range_parts c.args.range) 4 [] _ _ _ _ c.write-3.result (range_text_is c.args.range) c.lead_end.ensures (omega arith)
    (part_written part (range_parts c.args.range) 3 [] refl (omega arith)
    (part_written part (range_parts c.args.range) 2 [] refl (omega arith)
    (part_written part (range_parts c.args.range) 1 [] refl (omega arith)
    (part_written part (range_parts c.args.range) 0 [] refl (omega arith) (written_none c.args.buffer.now c.args.out.now) c.in_ok-write.ensures.writes)
    c.in_ok-write_point.ensures) c.in_ok-write-2.ensures.writes) c.in_ok-write_point-2.ensures) c.write-3.ensures.writes
