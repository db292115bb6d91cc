use Rattle.std.proofs.Common.{[], refl, ap, ◌∙◌, arith}
use Rattle.std.specs.List.{flat_map}
use Rattle.uca_values.specs.Content.{Entry}
use Rattle.uca_table.specs.CanonicalElements.{element_text}
use Rattle.uca_table.specs.Canonical.{key_text}
use Rattle.uca_lines.proofs.BufferedLemmas.{part, written_none, part_fits, part_written, returns_fault, returns_last}
use Rattle.uca_table.proofs.CanonicalTexts.{row_parts, row_text_is}
use Rattle.uca_table.proofs.canonical.rows.write_row.Goals as goal

pub write_key-requires : goal.write_key-requires
write_key-requires g c = part_fits part (row_parts c.args.row.now) 0 [] _ _ (row_text_is c.args.row.now)
    (ap key_text (c.deref.ensures.value ∙ ap (λ (r : Entry). r.key) c.row.view_is)) (omega arith) (written_none c.args.buffer.now c.args.out.now) c.requires

pub returns-in_err-write_key : goal.returns-in_err-write_key
returns-in_err-write_key g c = returns_fault part (row_parts c.args.row.now) 0 [] _ _ c.from_residual.result (row_text_is c.args.row.now)
    (ap key_text (c.deref.ensures.value ∙ ap (λ (r : Entry). r.key) c.row.view_is)) (omega arith) (written_none c.args.buffer.now c.args.out.now)
    c.in_err-write_key.ensures c.from_residual.ensures.1

pub write-requires : goal.write-requires
write-requires g c = part_fits part (row_parts c.args.row.now) 1 [] _ _ (row_text_is c.args.row.now) refl (omega arith)
    (part_written part (row_parts c.args.row.now) 0 [] (ap key_text (c.deref.ensures.value ∙ ap (λ (r : Entry). r.key) c.row.view_is)) (omega arith)
    (written_none c.args.buffer.now c.args.out.now) c.in_ok-write_key.ensures) c.requires

pub returns-in_err-write : goal.returns-in_err-write
returns-in_err-write g c = returns_fault part (row_parts c.args.row.now) 1 [] _ _ c.from_residual-in_err-write.result (row_text_is c.args.row.now) refl
    (omega arith) (part_written part (row_parts c.args.row.now) 0 [] (ap key_text (c.deref.ensures.value ∙ ap (λ (r : Entry). r.key) c.row.view_is))
    (omega arith) (written_none c.args.buffer.now c.args.out.now) c.in_ok-write_key.ensures) c.in_err-write.ensures.writes c.from_residual-in_err-write.ensures.1

pub write_elements-requires : goal.write_elements-requires
write_elements-requires g c = part_fits part (row_parts c.args.row.now) 2 [] _ _ (row_text_is c.args.row.now)
    (ap (flat_map element_text) (c.deref-2.ensures.value ∙ ap (λ (r : Entry). r.elements) c.row.view_is)) (omega arith)
    (part_written part (row_parts c.args.row.now) 1 [] refl (omega arith)
    (part_written part (row_parts c.args.row.now) 0 [] (ap key_text (c.deref.ensures.value ∙ ap (λ (r : Entry). r.key) c.row.view_is)) (omega arith)
    (written_none c.args.buffer.now c.args.out.now) c.in_ok-write_key.ensures) c.in_ok-write.ensures.writes) c.requires

pub returns-in_err-write_elements : goal.returns-in_err-write_elements
returns-in_err-write_elements g c = returns_fault part (row_parts c.args.row.now) 2 [] _ _ c.from_residual-in_err-write_elements.result
    (row_text_is c.args.row.now) (ap (flat_map element_text) (c.deref-2.ensures.value ∙ ap (λ (r : Entry). r.elements) c.row.view_is)) (omega arith)
    (part_written part (row_parts c.args.row.now) 1 [] refl (omega arith)
    (part_written part (row_parts c.args.row.now) 0 [] (ap key_text (c.deref.ensures.value ∙ ap (λ (r : Entry). r.key) c.row.view_is)) (omega arith)
    (written_none c.args.buffer.now c.args.out.now) c.in_ok-write_key.ensures) c.in_ok-write.ensures.writes) c.in_err-write_elements.ensures
    c.from_residual-in_err-write_elements.ensures.1

pub write-requires-2 : goal.write-requires-2
write-requires-2 g c = part_fits part (row_parts c.args.row.now) 3 [] _ _ (row_text_is c.args.row.now) refl (omega arith)
    (part_written part (row_parts c.args.row.now) 2 [] (ap (flat_map element_text)
    (c.deref-2.ensures.value ∙ ap (λ (r : Entry). r.elements) c.row.view_is)) (omega arith)
    (part_written part (row_parts c.args.row.now) 1 [] refl (omega arith)
    (part_written part (row_parts c.args.row.now) 0 [] (ap key_text (c.deref.ensures.value ∙ ap (λ (r : Entry). r.key) c.row.view_is)) (omega arith)
    (written_none c.args.buffer.now c.args.out.now) c.in_ok-write_key.ensures) c.in_ok-write.ensures.writes) c.in_ok-write_elements.ensures) c.requires

pub returns : goal.returns
returns g c = returns_last part (row_parts c.args.row.now) 3 [] _ _ _ _ c.write-2.result (row_text_is c.args.row.now) refl (omega arith)
    (part_written part (row_parts c.args.row.now) 2 [] (ap (flat_map element_text)
    (c.deref-2.ensures.value ∙ ap (λ (r : Entry). r.elements) c.row.view_is)) (omega arith)
    (part_written part (row_parts c.args.row.now) 1 [] refl (omega arith)
    (part_written part (row_parts c.args.row.now) 0 [] (ap key_text (c.deref.ensures.value ∙ ap (λ (r : Entry). r.key) c.row.view_is)) (omega arith)
    (written_none c.args.buffer.now c.args.out.now) c.in_ok-write_key.ensures) c.in_ok-write.ensures.writes) c.in_ok-write_elements.ensures) c.write-2.ensures.writes
