-- What a run of tailor returns, and what is written of it.
use Rattle.std.specs.Prelude.{◌≡◌, ◌≢◌, ◌<◌, List, Bool, true, false, MatchResult, Result, Ok, Err, length, ⊤}
use Rattle.std.specs.Io.KnownBytes.{Appends}
use Rattle.uca_weights.specs.Streams.{SourceState, SinkState}
use Rattle.uca_weights.specs.Writes.{WentOut}
use Rattle.uca_values.specs.Content.{TableContent, Properties}
use Rattle.uca_table.specs.Canonical.{canonical}
use Rattle.uca_relations.specs.declared.Relation.{Relation}
use Rattle.uca_certificates.specs.Certificates.{CertificateContent}
use Rattle.uca_certificates.specs.Texts.{certificate_text}
use Rattle.uca_tailorings.specs.Tailorings.{IsAccepted}
use Rattle.uca_tailorings.specs.Meaning.{IsFaithful}
use Rattle.uca_tailorings.specs.Inputs.{tailoring_of}
use Rattle.uca_plans.specs.declared.faults.TailorKind.TheVariants as kinds
use Rattle.uca_plans.specs.Tailors.{IsPlanOf, TailorRefuses}
use Rattle.uca_run_parts.specs.declared.faults.RunFault.{RunFault}
use Rattle.uca_run_parts.specs.declared.faults.RunFault.TheVariants.{Tailor, CertificateWrite, Memory, Write}
use Rattle.uca_run_parts.specs.Files.{HaveFailed, IsStop, Mean, Over, TailorContent, tailor_files, tailor_roles}

-- ---- The result

-- the table and the certificate are the plan of the rules over the base; an audit accepts them, with all that this means
pub record IsTailored (base : TableContent) (properties : Properties) (relations : List Relation) (table : TableContent) (certificate : CertificateContent) : Type 0 where
  pub plan : IsPlanOf base properties relations table certificate
  pub accepted : IsAccepted (tailoring_of base properties relations table certificate)
  pub faithful : IsFaithful (tailoring_of base properties relations table certificate)

-- what a run of tailor returns for what its files mean: the plan, or why there is none, or an allocation failed
abbrev pub RunsTailor : Result (TableContent × CertificateContent) RunFault → TailorContent → Type 0
RunsTailor (Ok answer) files = IsTailored files.base files.properties files.relations answer.0 answer.1
RunsTailor (Err (Tailor fault)) files =
    TailorRefuses files.base files.properties files.relations fault × (fault.kind ≢ kinds.Memory)
RunsTailor (Err Memory) files = ⊤
RunsTailor (Err _) files = ⊥

-- if this is the plan of what the files mean, it is the result, or the run stopped
abbrev pub PlanIsAnswered : TailorContent → Result (TableContent × CertificateContent) RunFault → TableContent → CertificateContent → Type 0
PlanIsAnswered content result table certificate =
    IsPlanOf content.base content.properties content.relations table certificate
    → MatchResult result (λ answer. answer ≡ (table, certificate)) IsStop

-- files for which there is a plan are never rejected
abbrev pub PlansPlanned : List SourceState → Result (TableContent × CertificateContent) RunFault → Type 0
PlansPlanned sources result = (content : TailorContent) → Mean tailor_files sources content
    → (table : TableContent) (certificate : CertificateContent) → PlanIsAnswered content result table certificate

-- A run of tailor: what it returns if the bytes of its files are known, and that it returns the plan if there is one.
-- And for any sources, which of them have failed.
pub record TailorsFiles (olds news : List SourceState) (result : Result (TableContent × CertificateContent) RunFault) : Type 0 where
  pub runs : Over tailor_files olds news (RunsTailor result) result
  pub only : PlansPlanned olds result
  pub failed : HaveFailed tailor_roles olds news result

-- ---- What is written

-- The certificate goes out, and then the table. Where the writer of the certificate fails, nothing of the table does.
abbrev pub WritesTailored : TableContent → CertificateContent → SinkState → SinkState → SinkState → SinkState → Result (Unit {0}) RunFault → Type 0
WritesTailored table certificate file file_new out out_new (Ok done) =
    Appends file.contents file_new.contents (certificate_text certificate) × Appends out.contents out_new.contents (canonical table)
WritesTailored table certificate file file_new out out_new (Err (CertificateWrite written)) =
    WentOut file.contents file_new.contents (certificate_text certificate) written × (written < length (certificate_text certificate)) × (out_new ≡ out)
WritesTailored table certificate file file_new out out_new (Err (Write written)) =
    Appends file.contents file_new.contents (certificate_text certificate)
    × WentOut out.contents out_new.contents (canonical table) written × (written < length (canonical table))
WritesTailored table certificate file file_new out out_new (Err _) = ⊥

-- whether writing the certificate failed
abbrev pub is_certificate_write : {A : Type 0} → Result A RunFault → Bool
is_certificate_write (Ok x) = false
is_certificate_write (Err (CertificateWrite written)) = true
is_certificate_write (Err _) = false
