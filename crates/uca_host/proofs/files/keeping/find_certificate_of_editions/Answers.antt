-- The certificate is none of the first three files, and is the fourth.
use Rattle.std.proofs.Common.{inl, inr, refl}
use Rattle.uca_host.proofs.files.keeping.find_certificate_of_editions.Goals as goal

pub returns-then-is_certificate-4 : goal.returns-then-is_certificate-4
returns-then-is_certificate-4 g c =
    inr (
      c.is_certificate.new.opener,
      c.if-is_certificate.ensures,
      inr (
        c.is_certificate-2.new.opener,
        c.if-is_certificate-2.ensures,
        inr (c.is_certificate-3.new.opener, c.if-is_certificate-3.ensures, inl (refl, c.if-is_certificate-4.ensures)),
      ),
    )
