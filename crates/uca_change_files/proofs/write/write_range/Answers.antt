use Rattle.std.proofs.Common.{[], refl, arith}
use Rattle.uca_lines.proofs.BufferedLemmas.{part, written_none, part_fits, part_written, returns_fault, returns_last}
use Rattle.uca_change_files.proofs.WriteLaws.{range_parts, range_is}
use Rattle.uca_change_files.proofs.write.write_range.Goals as goal

pub write_point-requires : goal.write_point-requires
write_point-requires g c =
    let r = c.args.range in
    part_fits part (range_parts r) 0 [] _ _ (range_is r) refl (omega arith) (written_none c.args.buffer.now c.args.out.now) c.requires

pub returns-in_err-write_point : goal.returns-in_err-write_point
returns-in_err-write_point g c =
    let r = c.args.range in
    returns_fault part (range_parts r) 0 [] _ _ c.from_residual.result (range_is r) refl (omega arith) (written_none c.args.buffer.now c.args.out.now)
    c.in_err-write_point.ensures c.from_residual.ensures.1

pub write_point-requires-2 : goal.write_point-requires-2
write_point-requires-2 g c =
    let r = c.args.range in
    let one = part_written part (range_parts r) 0 [] refl (omega arith) (written_none c.args.buffer.now c.args.out.now) c.in_ok-write_point.ensures in
    part_fits part (range_parts r) 1 [] _ _ (range_is r) refl (omega arith) one c.requires

pub returns-in_err-write_point-2 : goal.returns-in_err-write_point-2
returns-in_err-write_point-2 g c =
    let r = c.args.range in
    let one = part_written part (range_parts r) 0 [] refl (omega arith) (written_none c.args.buffer.now c.args.out.now) c.in_ok-write_point.ensures in
    returns_fault part (range_parts r) 1 [] _ _ c.from_residual-in_err-write_point-2.result (range_is r) refl (omega arith) one
    c.in_err-write_point-2.ensures c.from_residual-in_err-write_point-2.ensures.1

pub write-requires : goal.write-requires
write-requires g c =
    let r = c.args.range in
    let one = part_written part (range_parts r) 0 [] refl (omega arith) (written_none c.args.buffer.now c.args.out.now) c.in_ok-write_point.ensures in
    let two = part_written part (range_parts r) 1 [] refl (omega arith) one c.in_ok-write_point-2.ensures in
    part_fits part (range_parts r) 2 [] _ _ (range_is r) refl (omega arith) two c.requires

pub returns : goal.returns
returns g c =
    let r = c.args.range in
    let one = part_written part (range_parts r) 0 [] refl (omega arith) (written_none c.args.buffer.now c.args.out.now) c.in_ok-write_point.ensures in
    let two = part_written part (range_parts r) 1 [] refl (omega arith) one c.in_ok-write_point-2.ensures in
    returns_last part (range_parts r) 2 [] _ _ _ _ c.write.result (range_is r) refl (omega arith) two c.write.ensures.writes
