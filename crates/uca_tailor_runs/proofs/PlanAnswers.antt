-- What a run returns for a plan, and for an error of the planner.
use Rattle.std.proofs.Common.{◌≡◌, ℕ, List, false, Err, refl, ap, sym, ◌∙◌}
use Rattle.uca_values.specs.Content.{HeaderContent, TableContent, Properties}
use Rattle.uca_relations.specs.declared.Relation.{Relation}
use Rattle.uca_certificates.specs.Certificates.{CertificateContent}
use Rattle.uca_plans.specs.declared.faults.TailorFault.{TailorFault}
use Rattle.uca_plans.specs.declared.faults.TailorKind.{TailorKind}
use Rattle.uca_plans.specs.declared.faults.TailorKind.TheVariants as kinds
use Rattle.uca_plans.specs.Plans.{Plan}
use Rattle.uca_plans.specs.Tailors.{plan_in, certificate_of, IsPlanOf, IsRefusedBy, CauseOf, TailorRefuses}
use Rattle.uca_run_parts.specs.Files.{IsStop, ended_by_file, tailor_content}
use Rattle.uca_tailor_runs.specs.TailorRun.{RunsTailor}
use Rattle.uca_run_parts.specs.PlanFaults.{refused_plan}

-- an error from its parts
abbrev fault_by : TailorKind → ℕ → TailorFault
fault_by kind relation = record { kind = kind; relation = relation }

-- ---- Errors of the planner

-- none is a file's
pub no_file_of_plan : (A : Type 0) (fault : TailorFault) → ended_by_file {A = A} (Err (refused_plan fault)) ≡ false
no_file_of_plan A fault = by_kind fault.kind fault.relation
  where
    by_kind : (kind : TailorKind) (relation : ℕ) → ended_by_file {A = A} (Err (refused_plan (fault_by kind relation))) ≡ false
    by_kind kinds.BaseIllFormed relation = refl
    by_kind kinds.Anchor relation = refl
    by_kind kinds.NeedsPrefix relation = refl
    by_kind (kinds.NoRoom level) relation = refl
    by_kind kinds.Limit relation = refl
    by_kind kinds.ImplicitVariable relation = refl
    by_kind kinds.Memory relation = refl

-- what the planner rejects is returned as an error
pub refusal_answered : (base : TableContent) (points : Properties) (relations : List Relation) (fault : TailorFault)
    → TailorRefuses base points relations fault → RunsTailor (Err (refused_plan fault)) (tailor_content base points relations)
refusal_answered base points relations fault refuses = by_kind fault.kind fault.relation refuses
  where
    by_kind : (kind : TailorKind) (relation : ℕ) → CauseOf base points relations (fault_by kind relation) kind
        → RunsTailor (Err (refused_plan (fault_by kind relation))) (tailor_content base points relations)
    by_kind kinds.BaseIllFormed relation cause = (cause, λ same. cc)
    by_kind kinds.Anchor relation cause = (cause, λ same. cc)
    by_kind kinds.NeedsPrefix relation cause = (cause, λ same. cc)
    by_kind (kinds.NoRoom level) relation cause = (cause, λ same. cc)
    by_kind kinds.Limit relation cause = (cause, λ same. cc)
    by_kind kinds.ImplicitVariable relation cause = (cause, λ same. cc)
    by_kind kinds.Memory relation cause = tt

-- ---- One plan

-- a table with this header and the rows of a plan, and the plan's certificate
abbrev tailored_by : HeaderContent → Plan → TableContent × CertificateContent
tailored_by header plan = (record { header = header; rows = plan.rows }, certificate_of plan)

-- there is one at most
pub one_plan : (base : TableContent) (points : Properties) (relations : List Relation) (table other : TableContent) (certificate another : CertificateContent)
    → IsPlanOf base points relations table certificate → IsPlanOf base points relations other another → ◌≡◌ {A = TableContent × CertificateContent} (table, certificate) (other, another)
one_plan base points relations table other certificate another is also =
    let plan = is.plan in
    let second = also.plan in
    let same : plan_in table certificate ≡ plan_in other another = cc in
    let header : table.header ≡ other.header = is.header ∙ sym also.header in
    ap (λ h. tailored_by h (plan_in table certificate)) header ∙ ap (λ p. tailored_by other.header p) same

-- where there is a plan, the definition does not reject the rules
plan_or_refusal : (base : TableContent) (points : Properties) (relations : List Relation) (table : TableContent) (certificate : CertificateContent) (fault : TailorFault)
    → IsPlanOf base points relations table certificate → IsRefusedBy base points relations fault → ⊥
plan_or_refusal base points relations table certificate fault is refused =
    let plan = is.plan in
    let first = refused.first in
    cc

-- so if there is a plan, the planner's only error is that an allocation failed
pub plan_stops : (base : TableContent) (points : Properties) (relations : List Relation) (table : TableContent) (certificate : CertificateContent) (fault : TailorFault)
    → IsPlanOf base points relations table certificate → TailorRefuses base points relations fault → IsStop (refused_plan fault)
plan_stops base points relations table certificate fault is refuses = by_kind fault.kind fault.relation refuses
  where
    refused : (kind : TailorKind) (relation : ℕ) → IsRefusedBy base points relations (fault_by kind relation) → IsStop (refused_plan (fault_by kind relation))
    refused kind relation by = absurd (plan_or_refusal base points relations table certificate (fault_by kind relation) is by)

    by_kind : (kind : TailorKind) (relation : ℕ) → CauseOf base points relations (fault_by kind relation) kind → IsStop (refused_plan (fault_by kind relation))
    by_kind kinds.BaseIllFormed relation cause = absurd (cause.1 is.well_formed)
    by_kind kinds.Anchor relation cause = refused kinds.Anchor relation cause
    by_kind kinds.NeedsPrefix relation cause = refused kinds.NeedsPrefix relation cause
    by_kind (kinds.NoRoom level) relation cause = refused (kinds.NoRoom level) relation cause
    by_kind kinds.Limit relation cause = refused kinds.Limit relation cause
    by_kind kinds.ImplicitVariable relation cause = refused kinds.ImplicitVariable relation cause
    by_kind kinds.Memory relation cause = tt
