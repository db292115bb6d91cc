-- The header, the texts and the ranges are written in turn.
use Rattle.std.proofs.Common.{[], refl, ap, subst, arith}
use Rattle.uca_lines.proofs.BufferedLemmas.{part, written_none, part_fits, part_written, returns_fault, returns_last}
use Rattle.uca_change_files.specs.ChangeTexts.{AreScalars}
use Rattle.uca_change_files.specs.Steps.{text_lines, range_lines}
use Rattle.uca_change_files.proofs.WriteLaws.{list_parts, list_is, list_fits, on_ok_of, means_itself}
use Rattle.uca_change_files.proofs.write.write_list.Goals as goal

pub returns-in_err-write-clause-text : goal.returns-in_err-write-clause-text
returns-in_err-write-clause-text g c =
    let list = c.args.list.now in
    returns_fault part (list_parts list) 0 [] _ _ c.from_residual.result (list_is list) refl (omega arith) (written_none c.args.buffer.now c.args.out.now)
    c.in_err-write.ensures.writes c.from_residual.ensures.1

pub write_texts-requires : goal.write_texts-requires
write_texts-requires g c =
    let list = c.args.list.now in
    let one = part_written part (list_parts list) 0 [] refl (omega arith) (written_none c.args.buffer.now c.args.out.now) c.in_ok-write.ensures.writes in
    part_fits part (list_parts list) 1 [] _ _ (list_is list) (ap text_lines c.texts.ensures.value) (omega arith) one
    (list_fits list c.args.buffer.now c.requires c.texts.ensures.list)

pub returns-in_err-write_texts-clause-text : goal.returns-in_err-write_texts-clause-text
returns-in_err-write_texts-clause-text g c =
    let list = c.args.list.now in
    let one = part_written part (list_parts list) 0 [] refl (omega arith) (written_none c.args.buffer.now c.args.out.now) c.in_ok-write.ensures.writes in
    returns_fault part (list_parts list) 1 [] _ _ c.from_residual-in_err-write_texts.result (list_is list) (ap text_lines c.texts.ensures.value)
    (omega arith) one c.in_err-write_texts.ensures.text c.from_residual-in_err-write_texts.ensures.1

pub write_ranges-requires : goal.write_ranges-requires
write_ranges-requires g c =
    let list = c.args.list.now in
    let one = part_written part (list_parts list) 0 [] refl (omega arith) (written_none c.args.buffer.now c.args.out.now) c.in_ok-write.ensures.writes in
    let two = part_written part (list_parts list) 1 [] (ap text_lines c.texts.ensures.value) (omega arith) one c.in_ok-write_texts.ensures.text in
    part_fits part (list_parts list) 2 [] _ _ (list_is list) (ap range_lines c.ranges-2.ensures.value) (omega arith) two
    (list_fits list c.args.buffer.now c.requires c.texts.ensures.list)

pub returns-clause-text : goal.returns-clause-text
returns-clause-text g c =
    let list = c.args.list.now in
    let one = part_written part (list_parts list) 0 [] refl (omega arith) (written_none c.args.buffer.now c.args.out.now) c.in_ok-write.ensures.writes in
    let two = part_written part (list_parts list) 1 [] (ap text_lines c.texts.ensures.value) (omega arith) one c.in_ok-write_texts.ensures.text in
    returns_last part (list_parts list) 2 [] _ _ _ _ c.write_ranges.result (list_is list) (ap range_lines c.ranges-2.ensures.value) (omega arith) two
    c.write_ranges.ensures

pub returns-clause-means : goal.returns-clause-means
returns-clause-means g c =
    on_ok_of c.write_ranges.result (means_itself c.args.list.now c.texts.ensures.list
    (subst AreScalars c.texts.ensures.value c.in_ok-write_texts.ensures.scalars))
