use Rattle.std.proofs.Common.{refl}
use Rattle.uca_table.specs.CanonicalElements.{element_text}
use Rattle.uca_lines.proofs.BufferedLemmas.{part_fits, part_written, returns_fault, all_parts_written}
use Rattle.uca_table.proofs.canonical.rows.write_elements.Goals as goal

pub write-requires : goal.write-requires
write-requires g c = part_fits element_text c.args.elements.now c.loop-element.element-index _ _ _ refl c.element_text.ensures c.loop-element-test.true
    c.loop-element.invariant c.requires

pub loop-element-preserved : goal.loop-element-preserved
loop-element-preserved g c = part_written element_text c.args.elements.now c.loop-element.element-index _ c.element_text.ensures
    c.loop-element-test.true c.loop-element.invariant c.in_ok-write.ensures.writes

pub returns-in_err-write : goal.returns-in_err-write
returns-in_err-write g c = returns_fault element_text c.args.elements.now c.loop-element.element-index _ _ _ c.from_residual.result refl
    c.element_text.ensures c.loop-element-test.true c.loop-element.invariant c.in_err-write.ensures.writes c.from_residual.ensures.1

pub returns : goal.returns
returns g c = all_parts_written element_text c.args.elements.now c.loop-element.element-index _ refl c.loop-element-test.false c.loop-element.invariant
