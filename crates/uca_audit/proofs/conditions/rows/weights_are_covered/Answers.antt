-- The first base row with a weight that has no image.
use Rattle.std.proofs.Common.{ap, sym, subst, ◌∙◌, inl, ◌<◌, List, length}
use Rattle.std.specs.List.{AllByRecursion}
use Rattle.std.proofs.lemmas.Bool.{false≢true}
use Rattle.uca_values.specs.Content.{Entry, TableContent}
use Rattle.uca_tailorings.specs.Inputs.{maps_of}
use Rattle.uca_tailorings.specs.Tailorings.{IsCovered, IsCoveredRow}
use Rattle.uca_tailorings.specs.declared.conditions.Condition.TheVariants.{Uncovered}
use Rattle.uca_check.specs.WellFormed.{IsFirstWithout}
use Rattle.uca_audit.specs.declared.faults.Place.TheVariants.{BaseRow}
use Rattle.uca_audit.specs.inside.Views.{tailoring_in}
use Rattle.uca_audit.proofs.FirstRelations.{fails_at_row}
use Rattle.uca_images.proofs.FirstRows.{row_further, row_here, rows_whole}
use Rattle.uca_audit.proofs.conditions.rows.weights_are_covered.Goals as goal

pub loop-at-preserved : goal.loop-at-preserved
loop-at-preserved g c =
    let t = tailoring_in c.args.inputs.now in
    row_further (IsCoveredRow t) c.deref-row-items.result.now t.base.rows (c.deref-row-items.ensures.value ∙ ap (λ (b : TableContent). b.rows) c.base.view_is)
    c.loop-at.at c.row-item.result c.loop-at-test.true c.row-item.is c.loop-at.invariant
    (subst (λ content. AllByRecursion (IsCovered (maps_of content)) c.row-item.result.elements) c.requires (c.is_covered_row.ensures.0 c.if-not-is_covered_row.false))

pub at_base_row-requires : goal.at_base_row-requires
at_base_row-requires g c = subst (λ (l : List Entry). c.loop-at.at < length l) (c.deref-row-items.ensures.value ∙ ap (λ (b : TableContent). b.rows) c.base.view_is) c.loop-at-test.true

pub returns-then-not-is_covered_row : goal.returns-then-not-is_covered_row
returns-then-not-is_covered_row g c =
    let t = tailoring_in c.args.inputs.now in
    let first = row_here (IsCoveredRow t) c.deref-row-items.result.now t.base.rows (c.deref-row-items.ensures.value ∙ ap (λ (b : TableContent). b.rows) c.base.view_is)
    c.loop-at.at c.row-item.result c.loop-at-test.true c.row-item.is c.loop-at.invariant
    (λ has. false≢true (sym c.if-not-is_covered_row.true ∙ c.is_covered_row.ensures.1
    (subst (λ content. AllByRecursion (IsCovered (maps_of content)) c.row-item.result.elements) (sym c.requires) has))) in
    inl (fails_at_row t Uncovered BaseRow (IsFirstWithout (IsCoveredRow t) t.base.rows) c.loop-at.at _ c.at_base_row.ensures first.1 (λ place at. at))

pub returns : goal.returns
returns g c =
    let t = tailoring_in c.args.inputs.now in
    rows_whole (IsCoveredRow t) c.deref-row-items.result.now t.base.rows (c.deref-row-items.ensures.value ∙ ap (λ (b : TableContent). b.rows) c.base.view_is)
    c.loop-at.at c.loop-at-test.false c.loop-at.invariant
