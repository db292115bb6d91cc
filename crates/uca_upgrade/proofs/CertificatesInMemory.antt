-- Errors of a certificate whose bytes are in memory: that of the reader, or one of memory in place of a failed read.
use Rattle.std.proofs.Common.{◌≡◌, ◌≢◌, ◌∙◌, ◌⊎◌, inl, inr, ℕ, List, Option, ap, refl, subst, sym}
use Rattle.uca_certificates.specs.Texts.{Says, Cause, IsStop, Refuses}
use Rattle.uca_certificates.specs.declared.TheConstants.{CERTIFICATE_FORM}
use Rattle.uca_certificates.specs.declared.faults.CertificateFault.{CertificateFault}
use Rattle.uca_certificates.specs.declared.faults.CertificateFaultKind.TheVariants as kinds
use Rattle.uca_owned.proofs.InMemory.{line_stopped}

abbrev memory_at : CertificateFault → CertificateFault
memory_at fault = record { line = fault.line; kind = kinds.Memory }

-- the bytes are rejected with it
pub certificate_refused : (bytes : List ℕ) (left : Option (List ℕ)) (fault told : CertificateFault)
    → (told ≡ fault) ⊎ ((fault.kind ≡ kinds.Read) × (told ≡ memory_at fault)) → Refuses bytes left fault → Refuses bytes left told
certificate_refused bytes left fault told (inl same) h = subst (Refuses bytes left) (sym same) h
certificate_refused bytes left fault told (inr (read, is)) (inl line) =
    subst (Refuses bytes left) (sym is) (inl (inr (inl (refl, line_stopped CERTIFICATE_FORM Says Cause bytes left fault.line fault.kind line))))
certificate_refused bytes left fault told (inr (read, is)) (inr map) =
    let other : kinds.Read ≡ kinds.Map map.cause = sym read ∙ map.kind in let never : ⊥ = cc in absurd never

-- a stop is then one of memory
pub certificate_stopped : (fault told : CertificateFault) → (told ≡ fault) ⊎ ((fault.kind ≡ kinds.Read) × (told ≡ memory_at fault))
    → told.kind ≢ kinds.Read → IsStop fault.kind → told.kind ≡ kinds.Memory
certificate_stopped fault told (inl same) not_read (inl read) = absurd (not_read (ap (λ (it : CertificateFault). it.kind) same ∙ read))
certificate_stopped fault told (inl same) not_read (inr memory) = ap (λ (it : CertificateFault). it.kind) same ∙ memory
certificate_stopped fault told (inr (read, is)) not_read stop = ap (λ (it : CertificateFault). it.kind) is
