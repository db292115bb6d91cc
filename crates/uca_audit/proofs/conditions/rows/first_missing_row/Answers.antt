-- The first base row whose key has no tailored row.
use Rattle.std.proofs.Common.{ap, sym, ◌∙◌}
use Rattle.std.proofs.lemmas.Bool.{false≢true}
use Rattle.uca_values.specs.Content.{Entry, TableContent}
use Rattle.uca_elements.specs.Rows.{rows_of}
use Rattle.uca_tailorings.specs.Tailorings.{IsPresentRow}
use Rattle.uca_audit.specs.inside.Views.{tailoring_in}
use Rattle.uca_images.proofs.FirstRows.{row_further, row_here, rows_whole}
use Rattle.uca_audit.proofs.TargetRows.{key_alike}
use Rattle.uca_audit.proofs.conditions.rows.first_missing_row.Goals as goal

pub loop-at-preserved : goal.loop-at-preserved
loop-at-preserved g c =
    let t = tailoring_in c.args.inputs.now in
    let alike = key_alike _ (rows_of t.tailored.rows) c.requires c.deref.result.now c.row-item.result.key
    (c.deref.ensures.value ∙ ap (λ (r : Entry). r.key) c.row.view_is) in
    row_further (IsPresentRow t) c.deref-row-items.result.now t.base.rows (c.deref-row-items.ensures.value ∙ ap (λ (b : TableContent). b.rows) c.base.view_is)
    c.loop-at.at c.row-item.result c.loop-at-test.true c.row-item.is c.loop-at.invariant (alike.0 (c.is_key.ensures.0 c.if-not-is_key.false))

pub returns-then-not-is_key : goal.returns-then-not-is_key
returns-then-not-is_key g c =
    let t = tailoring_in c.args.inputs.now in
    let alike = key_alike _ (rows_of t.tailored.rows) c.requires c.deref.result.now c.row-item.result.key
    (c.deref.ensures.value ∙ ap (λ (r : Entry). r.key) c.row.view_is) in
    row_here (IsPresentRow t) c.deref-row-items.result.now t.base.rows (c.deref-row-items.ensures.value ∙ ap (λ (b : TableContent). b.rows) c.base.view_is)
    c.loop-at.at c.row-item.result c.loop-at-test.true c.row-item.is c.loop-at.invariant
    (λ has. false≢true (sym c.if-not-is_key.true ∙ c.is_key.ensures.1 (alike.1 has)))

pub returns : goal.returns
returns g c =
    let t = tailoring_in c.args.inputs.now in
    rows_whole (IsPresentRow t) c.deref-row-items.result.now t.base.rows (c.deref-row-items.ensures.value ∙ ap (λ (b : TableContent). b.rows) c.base.view_is)
    c.loop-at.at c.loop-at-test.false c.loop-at.invariant
