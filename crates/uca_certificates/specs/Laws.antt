-- What bytes mean as a certificate, as statements.
use Rattle.std.specs.Prelude.{◌≡◌, ℕ, List, Option}
use Rattle.uca_certificates.specs.declared.faults.CertificateFault.{CertificateFault}
use Rattle.uca_certificates.specs.Certificates.{CertificateContent}
use Rattle.uca_certificates.specs.Texts.{Means, Refuses, IsStop}

-- Bytes mean at most one certificate.
abbrev pub BytesMeanAtMostOneCertificate : Type 0
BytesMeanAtMostOneCertificate = (bytes : List ℕ) (a b : CertificateContent) → Means bytes a → Means bytes b → a ≡ b

-- Bytes with an error mean no certificate. They may mean one only if reading stopped.
abbrev pub BytesWithAFaultMeanNoCertificate : Type 0
BytesWithAFaultMeanNoCertificate = (bytes : List ℕ) (left : Option (List ℕ)) (fault : CertificateFault) (content : CertificateContent) →
    Refuses bytes left fault → ¬ (IsStop fault.kind) → ¬ (Means bytes content)
