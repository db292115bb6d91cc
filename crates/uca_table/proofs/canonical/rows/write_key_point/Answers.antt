use Rattle.std.proofs.Common.{[], refl, arith}
use Rattle.uca_lines.proofs.BufferedLemmas.{part, written_none, part_fits, part_written, returns_fault, returns_last}
use Rattle.uca_table.proofs.CanonicalTexts.{point_parts, key_point_text_is}
use Rattle.uca_table.proofs.canonical.rows.write_key_point.Goals as goal

pub write_point-requires : goal.write_point-requires
write_point-requires g c = part_fits part (point_parts c.args.point) 0 [] _ _ (key_point_text_is c.args.point) refl (omega arith)
    (written_none c.args.buffer.now c.args.out.now) c.requires

pub returns-in_err-write_point : goal.returns-in_err-write_point
returns-in_err-write_point g c = returns_fault part (point_parts c.args.point) 0 [] _ _ c.from_residual.result (key_point_text_is c.args.point) refl
    (omega arith) (written_none c.args.buffer.now c.args.out.now) c.in_err-write_point.ensures c.from_residual.ensures.1

pub write-requires : goal.write-requires
write-requires g c = part_fits part (point_parts c.args.point) 1 [] _ _ (key_point_text_is c.args.point) refl (omega arith)
    (part_written part (point_parts c.args.point) 0 [] refl (omega arith) (written_none c.args.buffer.now c.args.out.now) c.in_ok-write_point.ensures) c.requires

pub returns : goal.returns
returns g c = returns_last part (point_parts c.args.point) 1 [] _ _ _ _ c.write.result (key_point_text_is c.args.point) refl (omega arith)
    (part_written part (point_parts c.args.point) 0 [] refl (omega arith) (written_none c.args.buffer.now c.args.out.now) c.in_ok-write_point.ensures)
    c.write.ensures.writes
