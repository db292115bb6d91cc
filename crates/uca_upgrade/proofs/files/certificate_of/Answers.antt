-- The reader knows all bytes.
use Rattle.std.proofs.Common.{subst}
use Rattle.std.specs.Prelude.{IfSome}
use Rattle.uca_certificates.specs.Certificates.{CertificateContent}
use Rattle.uca_certificates.specs.Texts.{IsStop, Means, Refuses}
use Rattle.uca_upgrade.proofs.CertificatesInMemory.{certificate_refused, certificate_stopped}
use Rattle.uca_upgrade.proofs.files.certificate_of.Goals as goal

pub returns-in-Err-clause-only : goal.returns-in-Err-clause-only
returns-in-Err-clause-only c content means =
    certificate_stopped c.in-Err.fault c.certificate_in_memory.result c.certificate_in_memory.ensures.fault c.certificate_in_memory.ensures.not_read
    (subst (λ known. IfSome known (λ bytes. (content : CertificateContent) → Means bytes content → IsStop c.in-Err.fault.kind)) c.new.ensures.bytes
    c.in-Err.ensures.only content means)

pub returns-in-Err-clause-rejected : goal.returns-in-Err-clause-rejected
returns-in-Err-clause-rejected c = record {
  left = c.read_certificate.new.source.remaining;
  cause = certificate_refused c.args.bytes.now c.read_certificate.new.source.remaining c.in-Err.fault c.certificate_in_memory.result
      c.certificate_in_memory.ensures.fault
      (subst (λ known. IfSome known (λ bytes. Refuses bytes c.read_certificate.new.source.remaining c.in-Err.fault)) c.new.ensures.bytes c.in-Err.ensures.fault);
  not_read = c.certificate_in_memory.ensures.not_read;
}
