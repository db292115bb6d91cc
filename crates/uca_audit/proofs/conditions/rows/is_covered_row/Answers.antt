-- A row is covered if each of its elements is.
use Rattle.std.proofs.Common.{◌≡◌, refl, sym, ap, subst, ◌∙◌}
use Rattle.std.specs.List.{AllByRecursion}
use Rattle.std.proofs.lemmas.Bool.{false≢true}
use Rattle.uca_values.specs.Content.{Entry}
use Rattle.uca_tailorings.specs.Inputs.{maps_of}
use Rattle.uca_tailorings.specs.Tailorings.{IsCovered}
use Rattle.uca_images.proofs.ImageLists.{each_further, each_whole, each_at}
use Rattle.uca_audit.proofs.conditions.rows.is_covered_row.Goals as goal

pub loop-element-preserved : goal.loop-element-preserved
loop-element-preserved g c =
    each_further (IsCovered (maps_of c.args.images.now)) c.deref-element-items.result.now c.loop-element.element-index _ c.loop-element-test.true
    c.loop-element.invariant (c.is_covered.ensures.0 c.if-not-is_covered.false)

pub returns-then-not-is_covered : goal.returns-then-not-is_covered
returns-then-not-is_covered g c =
    let P = IsCovered (maps_of c.args.images.now) in
    let same : c.deref-element-items.result.now ≡ c.args.row.now.elements = c.deref-element-items.ensures.value ∙ ap (λ (r : Entry). r.elements) c.row.view_is in (
      (λ h. absurd (false≢true h)),
      λ h. absurd (false≢true (sym c.if-not-is_covered.true ∙ c.is_covered.ensures.1
          (each_at P c.deref-element-items.result.now c.loop-element.element-index _ c.loop-element-test.true (subst (AllByRecursion P) (sym same) h)))),
    )

pub returns : goal.returns
returns g c =
    let P = IsCovered (maps_of c.args.images.now) in
    let same : c.deref-element-items.result.now ≡ c.args.row.now.elements = c.deref-element-items.ensures.value ∙ ap (λ (r : Entry). r.elements) c.row.view_is in (
      (λ h. subst (AllByRecursion P) same
          (each_whole P c.deref-element-items.result.now c.loop-element.element-index c.loop-element-test.false c.loop-element.invariant)),
      λ h. refl,
    )
