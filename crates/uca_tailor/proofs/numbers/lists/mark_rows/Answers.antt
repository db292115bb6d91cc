use Rattle.std.proofs.Common.{take, ap, subst, ◌∙◌}
use Rattle.std.proofs.lemmas.List.{take_all}
use Rattle.uca_values.specs.Content.{Entry}
use Rattle.uca_check.specs.WellFormed.{elements_of}
use Rattle.uca_check.proofs.Elements.{after_more}
use Rattle.uca_tailor.proofs.RowElements.{row_more}
use Rattle.uca_tailor.specs.inside.Marks.{AreMarked}
use Rattle.uca_tailor.proofs.numbers.lists.mark_rows.Goals as goal

pub loop-element-preserved : goal.loop-element-preserved
loop-element-preserved g c =
    subst (λ all. AreMarked c.args.level all c.mark.new.marks)
    (after_more (elements_of (take c.loop-row.row-index c.args.rows.now)) c.deref-element-items.result.now
    c.loop-element.element-index _ c.loop-element-test.true)
    (c.mark.ensures.each _ c.loop-element.invariant)

pub loop-row-preserved : goal.loop-row-preserved
loop-row-preserved g c =
    subst (λ all. AreMarked c.args.level all c.loop-element.marks)
    (row_more c.args.rows.now c.loop-row.row-index c.loop-element.element-index c.row-item.result c.deref-element-items.result.now
    c.loop-row-test.true c.row-item.is (c.deref-element-items.ensures.value ∙ ap (λ (r : Entry). r.elements) c.row.view_is) c.loop-element-test.false)
    c.loop-element.invariant

pub returns : goal.returns
returns g c =
    subst (λ rows. AreMarked c.args.level (elements_of rows) c.loop-row.marks) (take_all c.loop-row.row-index c.args.rows.now c.loop-row-test.false)
    c.loop-row.invariant
