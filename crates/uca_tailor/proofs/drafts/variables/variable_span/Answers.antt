use Rattle.std.proofs.Common.{◌++◌, take, ap, sym, subst, ◌∙◌, append-nil}
use Rattle.std.proofs.lemmas.List.{take_all}
use Rattle.uca_values.specs.Content.{Entry}
use Rattle.uca_check.specs.WellFormed.{elements_of}
use Rattle.uca_check.proofs.Elements.{after_more}
use Rattle.uca_tailor.proofs.RowElements.{no_element, row_more}
use Rattle.uca_tailor.specs.inside.Variables.{AreBounds}
use Rattle.uca_tailor.proofs.drafts.variables.variable_span.Goals as goal

pub loop-element-init : goal.loop-element-init
loop-element-init g c =
    subst (AreBounds c.loop-row.span) (sym (append-nil (elements_of (take c.loop-row.row-index c.args.rows.now)))) c.loop-row.invariant

pub loop-element-preserved : goal.loop-element-preserved
loop-element-preserved g c =
    subst (AreBounds c.widened-span.result)
    (after_more (elements_of (take c.loop-row.row-index c.args.rows.now)) c.deref-element-items.result.now c.loop-element.element-index
    no_element c.loop-element-test.true)
    (c.widened-span.ensures
    (elements_of (take c.loop-row.row-index c.args.rows.now) ++ take c.loop-element.element-index c.deref-element-items.result.now)
    c.loop-element.invariant)

pub loop-row-preserved : goal.loop-row-preserved
loop-row-preserved g c =
    subst (AreBounds c.loop-element.span)
    (row_more c.args.rows.now c.loop-row.row-index c.loop-element.element-index c.row-item.result c.deref-element-items.result.now
    c.loop-row-test.true c.row-item.is (c.deref-element-items.ensures.value ∙ ap (λ (r : Entry). r.elements) c.row.view_is) c.loop-element-test.false)
    c.loop-element.invariant

pub returns : goal.returns
returns g c =
    subst (λ rs. AreBounds c.loop-row.span (elements_of rs)) (take_all c.loop-row.row-index c.args.rows.now c.loop-row-test.false) c.loop-row.invariant
