use Rattle.std.proofs.Common.{ap, sym, ◌∙◌, inl, subst, ◌<◌, List, length}
use Rattle.std.proofs.lemmas.Bool.{false≢true}
use Rattle.uca_values.specs.Content.{Entry, TableContent}
use Rattle.uca_tailorings.specs.Tailorings.{IsUnchangedRow}
use Rattle.uca_tailorings.specs.declared.conditions.Condition.TheVariants.{RowChanged}
use Rattle.uca_check.specs.WellFormed.{IsFirstWithout}
use Rattle.uca_audit.specs.declared.faults.Place.TheVariants.{BaseRow}
use Rattle.uca_audit.specs.inside.Views.{tailoring_in}
use Rattle.uca_audit.proofs.FirstRelations.{fails_at_row}
use Rattle.uca_images.proofs.FirstRows.{row_further, row_here, rows_whole}
use Rattle.uca_audit.proofs.conditions.rows.rows_are_unchanged.Goals as goal

pub loop-at-preserved : goal.loop-at-preserved
loop-at-preserved g c =
    let t = tailoring_in c.args.inputs.now in
    row_further (IsUnchangedRow t) c.deref-row-items.result.now t.base.rows (c.deref-row-items.ensures.value ∙ ap (λ (b : TableContent). b.rows) c.base.view_is)
    c.loop-at.at c.row-item.result c.loop-at-test.true c.row-item.is c.loop-at.invariant (c.is_unchanged.ensures.0 c.if-not-is_unchanged.false)

pub at_base_row-requires : goal.at_base_row-requires
at_base_row-requires g c = subst (λ (l : List Entry). c.loop-at.at < length l) (c.deref-row-items.ensures.value ∙ ap (λ (b : TableContent). b.rows) c.base.view_is) c.loop-at-test.true

pub returns-then-not-is_unchanged : goal.returns-then-not-is_unchanged
returns-then-not-is_unchanged g c =
    let t = tailoring_in c.args.inputs.now in
    let first = row_here (IsUnchangedRow t) c.deref-row-items.result.now t.base.rows (c.deref-row-items.ensures.value ∙ ap (λ (b : TableContent). b.rows) c.base.view_is)
    c.loop-at.at c.row-item.result c.loop-at-test.true c.row-item.is c.loop-at.invariant
    (λ has. false≢true (sym c.if-not-is_unchanged.true ∙ c.is_unchanged.ensures.1 has)) in
    inl (fails_at_row t RowChanged BaseRow (IsFirstWithout (IsUnchangedRow t) t.base.rows) c.loop-at.at _ c.at_base_row.ensures first.1 (λ place at. at))

pub returns : goal.returns
returns g c =
    let t = tailoring_in c.args.inputs.now in
    rows_whole (IsUnchangedRow t) c.deref-row-items.result.now t.base.rows (c.deref-row-items.ensures.value ∙ ap (λ (b : TableContent). b.rows) c.base.view_is)
    c.loop-at.at c.loop-at-test.false c.loop-at.invariant
