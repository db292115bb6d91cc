use Rattle.std.proofs.Common.{[], refl, ap, arith, rules}
use Rattle.std.specs.Char.{IsScalar}
use Rattle.uca_lines.proofs.BufferedLemmas.{part, written_none, part_fits, part_written, part_fails, returns_fault, returns_last, all_parts_written}
use Rattle.uca_change_files.specs.ChangeTexts.{spaced}
use Rattle.uca_change_files.proofs.WriteLaws.{text_parts, text_is, each_taken, all_taken, on_ok_of}
use Rattle.uca_change_files.proofs.write.write_text.Goals as goal

pub write-requires : goal.write-requires
write-requires g c =
    let text = c.args.text.now in
    part_fits part (text_parts text) 0 [] _ _ (text_is text) refl (omega arith) (written_none c.args.buffer.now c.args.out.now) c.requires

pub returns-in_err-write-clause-text : goal.returns-in_err-write-clause-text
returns-in_err-write-clause-text g c =
    let text = c.args.text.now in
    returns_fault part (text_parts text) 0 [] _ _ c.from_residual.result (text_is text) refl (omega arith) (written_none c.args.buffer.now c.args.out.now)
    c.in_err-write.ensures.writes c.from_residual.ensures.1

pub write_point-requires : goal.write_point-requires
unfolding spaced
write_point-requires g c =
    let text = c.args.text.now in
    let one = part_written part (text_parts text) 0 [] refl (omega arith) (written_none c.args.buffer.now c.args.out.now) c.in_ok-write.ensures.writes in
    let room = part_fits part (text_parts text) 1 [] _ _ (text_is text) refl (omega arith) one c.requires in
    part_fits spaced text c.loop-point.point-index c.point-item.result _ _ refl (ap spaced c.point-item.is) c.loop-point-test.true
    c.loop-point.invariant.written room

pub returns-in_err-write_point-clause-text : goal.returns-in_err-write_point-clause-text
unfolding spaced
returns-in_err-write_point-clause-text g c =
    let text = c.args.text.now in
    let one = part_written part (text_parts text) 0 [] refl (omega arith) (written_none c.args.buffer.now c.args.out.now) c.in_ok-write.ensures.writes in
    let fails = part_fails spaced text c.loop-point.point-index c.point-item.result _ refl (ap spaced c.point-item.is) c.loop-point-test.true
    c.loop-point.invariant.written c.in_err-write_point.ensures in
    returns_fault part (text_parts text) 1 [] _ _ c.from_residual-in_err-write_point.result (text_is text) refl (omega arith) one fails
    c.from_residual-in_err-write_point.ensures.1

pub loop-point-preserved : goal.loop-point-preserved
unfolding spaced
loop-point-preserved g c =
    let scalar : IsScalar c.point-item.result = search rules in
    record {
      written = part_written spaced c.args.text.now c.loop-point.point-index c.point-item.result (ap spaced c.point-item.is)
          c.loop-point-test.true c.loop-point.invariant.written c.in_ok-write_point.ensures;
      scalars = each_taken IsScalar c.args.text.now c.loop-point.point-index c.point-item.result c.loop-point.invariant.scalars
          c.loop-point-test.true c.point-item.is scalar;
    }

pub write-requires-2 : goal.write-requires-2
write-requires-2 g c =
    let text = c.args.text.now in
    let one = part_written part (text_parts text) 0 [] refl (omega arith) (written_none c.args.buffer.now c.args.out.now) c.in_ok-write.ensures.writes in
    let all = all_parts_written spaced text c.loop-point.point-index _ refl c.loop-point-test.false c.loop-point.invariant.written in
    let two = part_written part (text_parts text) 1 [] refl (omega arith) one all in
    part_fits part (text_parts text) 2 [] _ _ (text_is text) refl (omega arith) two c.requires

pub returns-clause-text : goal.returns-clause-text
returns-clause-text g c =
    let text = c.args.text.now in
    let one = part_written part (text_parts text) 0 [] refl (omega arith) (written_none c.args.buffer.now c.args.out.now) c.in_ok-write.ensures.writes in
    let all = all_parts_written spaced text c.loop-point.point-index _ refl c.loop-point-test.false c.loop-point.invariant.written in
    let two = part_written part (text_parts text) 1 [] refl (omega arith) one all in
    returns_last part (text_parts text) 2 [] _ _ _ _ c.write-2.result (text_is text) refl (omega arith) two c.write-2.ensures.writes

pub returns-clause-scalars : goal.returns-clause-scalars
returns-clause-scalars g c =
    on_ok_of c.write-2.result (all_taken IsScalar c.args.text.now c.loop-point.point-index c.loop-point.invariant.scalars c.loop-point-test.false)
