-- The images of all elements are added to the weights of implicit weights.
use Rattle.std.proofs.Common.{ap, subst, ◌∙◌}
use Rattle.uca_values.specs.Content.{TableContent}
use Rattle.uca_check.specs.WellFormed.{elements_of}
use Rattle.uca_tailorings.specs.Inputs.{maps_of}
use Rattle.uca_audit.specs.inside.KnownWeights.{HoldsImages}
use Rattle.uca_audit.specs.inside.Views.{tailoring_in}
use Rattle.uca_audit.proofs.KnownImages.{pairs_alone, known_of_images}
use Rattle.uca_audit.proofs.base_images.known_weights.Goals as goal

pub add_images-requires : goal.add_images-requires
add_images-requires g c = pairs_alone (maps_of c.args.images.now) c.in_ok-known.known c.in_ok-known.ensures

pub returns : goal.returns
returns g c =
    let tailoring = tailoring_in c.args.inputs.now in
    known_of_images tailoring c.add_images.new.known
    (subst (λ content. HoldsImages (maps_of content) (elements_of tailoring.base.rows) c.add_images.new.known) c.requires
    (subst (λ rows. HoldsImages (maps_of c.args.images.now) (elements_of rows) c.add_images.new.known)
    (c.deref.ensures.value ∙ ap (λ (t : TableContent). t.rows) c.base.view_is) c.add_images.ensures))
