-- The maps of the images are those of their levels.
use Rattle.std.proofs.Common.{ap}
use Rattle.uca_weights.specs.declared.Level.TheVariants.{One, Two, Three}
use Rattle.uca_certificates.specs.Certificates.{CertificateContent}
use Rattle.uca_tailorings.specs.Inputs.{maps_of}
use Rattle.uca_audit.proofs.KnownImages.{images_more, adds_by_map}
use Rattle.uca_audit.proofs.base_images.add_element.Goals as goal

pub returns : goal.returns
returns g c elements holds =
    let images = c.args.images.now in
    let maps = c.images.inside in
    let e = c.args.element in
    let view = c.images.view_is in
    images_more (maps_of images) e c.args.known.now c.add_image.new.known c.add_image-2.new.known c.add_image-3.new.known
    (adds_by_map c.args.known.now c.add_image.new.known One maps.primary images.primary e.primary c.images.invariant.0
    (ap (λ (m : CertificateContent). m.primary) view) c.add_image.ensures)
    (adds_by_map c.add_image.new.known c.add_image-2.new.known Two maps.secondary images.secondary e.secondary c.images.invariant.1
    (ap (λ (m : CertificateContent). m.secondary) view) c.add_image-2.ensures)
    (adds_by_map c.add_image-2.new.known c.add_image-3.new.known Three maps.tertiary images.tertiary e.tertiary c.images.invariant.2
    (ap (λ (m : CertificateContent). m.tertiary) view) c.add_image-3.ensures)
    elements holds
