use Rattle.std.proofs.Common.{refl, sym, ◌∙◌}
use Rattle.std.proofs.lemmas.Bool.{false≢true}
use Rattle.uca_tailorings.specs.Inputs.{maps_of}
use Rattle.uca_tailorings.specs.Tailorings.{IsCovered}
use Rattle.uca_images.proofs.ImageLists.{each_further, each_whole, each_at}
use Rattle.uca_images.proofs.rows.are_covered.Goals as goal

pub loop-element-preserved : goal.loop-element-preserved
loop-element-preserved g c =
    each_further (IsCovered (maps_of c.args.images.now)) c.args.elements.now c.loop-element.element-index _ c.loop-element-test.true c.loop-element.invariant
    (c.is_covered.ensures.0 c.if-not-is_covered.false)

pub returns-then-not-is_covered : goal.returns-then-not-is_covered
returns-then-not-is_covered g c = (
  λ h. absurd (false≢true h),
  λ h. absurd (false≢true (sym c.if-not-is_covered.true
      ∙ c.is_covered.ensures.1 (each_at (IsCovered (maps_of c.args.images.now)) c.args.elements.now c.loop-element.element-index _ c.loop-element-test.true h))),
)

pub returns : goal.returns
returns g c = (
  λ h. each_whole (IsCovered (maps_of c.args.images.now)) c.args.elements.now c.loop-element.element-index c.loop-element-test.false c.loop-element.invariant,
  λ h. refl,
)
