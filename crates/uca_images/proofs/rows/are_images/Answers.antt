use Rattle.std.proofs.Common.{arith, refl, sym, ◌∙◌}
use Rattle.std.proofs.lemmas.Bool.{false≢true}
use Rattle.uca_tailorings.specs.Inputs.{maps_of}
use Rattle.uca_images.proofs.ImageLists.{images_length, images_further, images_whole, image_at}
use Rattle.uca_images.proofs.rows.are_images.Goals as goal

pub returns-then-old-new : goal.returns-then-old-new
returns-then-old-new g c = (
  (λ h. absurd (false≢true h)),
  λ h. absurd (c.if-old-new.true (images_length (maps_of c.args.images.now) c.args.old.now c.args.new.now h)),
)

pub loop-at-preserved : goal.loop-at-preserved
loop-at-preserved g c =
    images_further (maps_of c.args.images.now) c.args.old.now c.args.new.now c.loop-at.at _ _ c.loop-at-test.true
    (omega (arith, c.loop-at-test.true, c.if-old-new.false)) c.loop-at.invariant (c.is_image.ensures.0 c.if-not-is_image.false)

pub returns-then-not-is_image : goal.returns-then-not-is_image
returns-then-not-is_image g c = (
  λ h. absurd (false≢true h),
  λ h. absurd (false≢true (sym c.if-not-is_image.true
      ∙ c.is_image.ensures.1 (image_at (maps_of c.args.images.now) c.args.old.now c.args.new.now c.loop-at.at _ _ c.loop-at-test.true
      (omega (arith, c.loop-at-test.true, c.if-old-new.false)) h))),
)

pub returns : goal.returns
returns g c = (
  λ h. images_whole (maps_of c.args.images.now) c.args.old.now c.args.new.now c.loop-at.at c.loop-at-test.false
      (omega (arith, c.loop-at-test.false, c.if-old-new.false)) c.loop-at.invariant,
  λ h. refl,
)
