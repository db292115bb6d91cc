-- Both levels go through the map of level 1.
use Rattle.std.proofs.Common.{◌≡◌, ◌∙◌, IfOk, ap, subst}
use Rattle.uca_weights.specs.Runs.{weight_image}
use Rattle.uca_books.specs.Books.{BookContent}
use Rattle.uca_certificates.specs.Certificates.{CertificateContent}
use Rattle.uca_tailorings.specs.Inputs.{maps_of}
use Rattle.uca_book_images.specs.BookImages.{starts_image, book_image}
use Rattle.uca_book_images.proofs.BookImages.{book_is, image_is}
use Rattle.uca_book_images.proofs.image.image_of.Goals as goal

pub returns : goal.returns
returns g c =
    let map = c.certificate.inside.primary in
    let images = weight_image map.level map.runs in
    let given : BookContent = record { letters = c.letters.result.now; variables = c.variables.result.now } in
    let made : BookContent = record { letters = c.deref.result.now; variables = c.deref-2.result.now } in
    let is : made ≡ book_image images given =
    book_is made (starts_image images 0xFFFF 1 given.letters) (starts_image images 0xFFFE 1 given.variables)
    (c.deref.ensures.value ∙ c.in_ok-letters.ensures) (c.deref-2.ensures.value ∙ c.in_ok-variables.ensures) in
    let all : made ≡ book_image (maps_of c.args.certificate.now).primary c.args.book.now =
    image_is map.level map.runs c.args.certificate.now.primary c.args.book.now given made c.certificate.invariant.0
    (ap (λ (content : CertificateContent). content.primary) c.certificate.view_is) c.letters.ensures.value c.variables.ensures.value is in
    subst (λ (b : BookContent). IfOk c.book_of.result (λ image. image ≡ b)) all c.book_of.ensures
