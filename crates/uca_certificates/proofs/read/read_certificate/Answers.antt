-- Bytes mean one certificate at most, and none if they have an error.
use Rattle.uca_certificates.specs.Certificates.{CertificateContent}
use Rattle.uca_certificates.proofs.WholeLaws.{only_known}
use Rattle.uca_certificates.proofs.read.read_certificate.Goals as goal

pub returns-clause-only : goal.returns-clause-only
returns-clause-only g c =
    only_known {X = CertificateContent} (λ content. content) _ _ c.read_to_end.result c.read_to_end.ensures.found c.read_to_end.ensures.fault
