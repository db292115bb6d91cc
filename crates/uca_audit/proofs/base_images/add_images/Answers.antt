-- The elements so far are those of the rows before, and of this one.
use Rattle.std.proofs.Common.{take, ap, sym, subst, ◌∙◌, arith}
use Rattle.std.proofs.lemmas.List.{append-nil, take_all}
use Rattle.uca_values.specs.Content.{Entry}
use Rattle.uca_check.specs.WellFormed.{elements_of}
use Rattle.uca_check.proofs.Elements.{after_more}
use Rattle.uca_tailorings.specs.Inputs.{maps_of}
use Rattle.uca_audit.specs.inside.KnownWeights.{HoldsImages}
use Rattle.uca_audit.proofs.KnownImages.{row_more}
use Rattle.uca_audit.proofs.base_images.add_images.Goals as goal

pub loop-element-init : goal.loop-element-init
loop-element-init g c =
    let maps = maps_of c.args.images.now in
    subst (λ all. HoldsImages maps all c.loop-row.known) (sym (append-nil (elements_of (take c.loop-row.row-index c.args.rows.now)))) c.loop-row.invariant

pub loop-element-preserved : goal.loop-element-preserved
loop-element-preserved g c =
    let maps = maps_of c.args.images.now in
    subst (λ all. HoldsImages maps all c.add_element.new.known)
    (after_more (elements_of (take c.loop-row.row-index c.args.rows.now)) c.deref-element-items.result.now c.loop-element.element-index _ c.loop-element-test.true)
    (c.add_element.ensures _ c.loop-element.invariant)

pub loop-row-preserved : goal.loop-row-preserved
loop-row-preserved g c =
    let maps = maps_of c.args.images.now in
    subst (λ all. HoldsImages maps all c.loop-element.known)
    (row_more c.args.rows.now c.loop-row.row-index c.loop-element.element-index c.row-item.result c.deref-element-items.result.now
    c.loop-row-test.true c.row-item.is (c.deref-element-items.ensures.value ∙ ap (λ (r : Entry). r.elements) c.row.view_is)
    c.loop-element-test.false)
    c.loop-element.invariant

pub returns : goal.returns
returns g c =
    let maps = maps_of c.args.images.now in
    subst (λ rows. HoldsImages maps (elements_of rows) c.loop-row.known) (take_all c.loop-row.row-index c.args.rows.now (omega arith)) c.loop-row.invariant
