use Rattle.std.proofs.Common.{[], refl, ap, ◌∙◌, arith}
use Rattle.uca_lines.specs.Numbers.{digits}
use Rattle.uca_lines.proofs.BufferedLemmas.{part, written_none, part_fits, part_written, part_fails, returns_last}
use Rattle.uca_table.proofs.CanonicalDigits as canonical
use Rattle.uca_change_files.proofs.WriteLaws.{point_parts, point_is}
use Rattle.uca_change_files.proofs.write.write_point.Goals as goal

pub write-requires : goal.write-requires
write-requires g c =
    let front = c.args.front.now in
    part_fits part (point_parts front c.args.point) 0 [] _ _ (point_is front c.args.point) refl (omega arith) (written_none c.args.buffer.now c.args.out.now) c.requires

pub returns-in-Err : goal.returns-in-Err
returns-in-Err g c =
    let front = c.args.front.now in
    part_fails part (point_parts front c.args.point) 0 [] _ (point_is front c.args.point) refl (omega arith)
    (written_none c.args.buffer.now c.args.out.now) c.in-Err.ensures.writes

pub write-requires-in-Ok : goal.write-requires-in-Ok
write-requires-in-Ok g c =
    let front = c.args.front.now in
    let digits_are = canonical.point_is c.args.point c.spare_digits.result c.six_digits-digits.result c.spare_digits.ensures
    (c.six_digits-digits.ensures ∙ ap (digits 6) c.from.ensures) in
    let one = part_written part (point_parts front c.args.point) 0 [] refl (omega arith) (written_none c.args.buffer.now c.args.out.now) c.in-Ok.ensures.writes in
    part_fits part (point_parts front c.args.point) 1 [] _ _ (point_is front c.args.point) digits_are (omega arith) one c.requires

pub returns-in-Ok : goal.returns-in-Ok
returns-in-Ok g c =
    let front = c.args.front.now in
    let digits_are = canonical.point_is c.args.point c.spare_digits.result c.six_digits-digits.result c.spare_digits.ensures
    (c.six_digits-digits.ensures ∙ ap (digits 6) c.from.ensures) in
    let one = part_written part (point_parts front c.args.point) 0 [] refl (omega arith) (written_none c.args.buffer.now c.args.out.now) c.in-Ok.ensures.writes in
    returns_last part (point_parts front c.args.point) 1 [] _ _ _ _ c.write-in-Ok.result (point_is front c.args.point) digits_are (omega arith) one c.write-in-Ok.ensures.writes
