-- Why a plan needs no audit.
use Rattle.std.proofs.Common.{◌≡◌, List, Result, Ok, Err, ap, sym, subst}
use Rattle.std.specs.Prelude.{IfOk, IfErr}
use Rattle.uca_values.specs.Content.{TableContent, Properties, IsTable}
use Rattle.uca_check.specs.WellFormed.{IsWellFormed}
use Rattle.uca_relations.specs.declared.Relation.{Relation}
use Rattle.uca_relations.specs.Relations.{AreRules}
use Rattle.uca_certificates.specs.Certificates.{CertificateContent}
use Rattle.uca_tailorings.specs.Tailorings.{IsAccepted}
use Rattle.uca_tailorings.specs.Meaning.{IsFaithful}
use Rattle.uca_tailorings.specs.Inputs.{tailoring_of}
use Rattle.uca_plans.specs.declared.faults.TailorFault.{TailorFault}
use Rattle.uca_plans.specs.Tailors.{plan_in, table_of, IsPlanOf, TailorRefuses}
use Rattle.uca_acceptance.specs.Accepted.{PlansAreAccepted, PlansAreFaithful, IsPlanFor}
use Rattle.uca_tailor.specs.inside.PlanParts.{IsMade, IsNotMade}
use Rattle.uca_tailor.proofs.RefusalLaws.{refused_plan}

module _ (base : TableContent) (points : Properties) (relations : List Relation) where
  -- what an audit says of a table and a certificate
  abbrev IsAudited : TableContent → CertificateContent → Type 0
  IsAudited table certificate =
      IsAccepted (tailoring_of base points relations table certificate) × IsFaithful (tailoring_of base points relations table certificate)

  -- a plan is accepted, with all that this means
  pub plan_audited : PlansAreAccepted → PlansAreFaithful → IsTable base → AreRules relations → (table : TableContent) (certificate : CertificateContent) →
      IsPlanOf base points relations table certificate → IsAudited table certificate
  plan_audited accepted faithful is_table rules table certificate is =
      let for : IsPlanFor base points relations (plan_in table certificate) =
      record { table = is_table; well_formed = is.well_formed; rules = rules; is_planned = is.plan } in
      let own : table_of base (plan_in table certificate) ≡ table = ap (λ h. record { header = h; rows = table.rows }) (sym is.header) in
      subst (λ t. IsAudited t certificate) own (
        λ condition. accepted condition base points relations (plan_in table certificate) for,
        faithful base points relations (plan_in table certificate) for,
      )

  -- what is made is a plan
  plan_made : IsWellFormed points.class base.rows → (table : TableContent) (certificate : CertificateContent) → IsMade base points relations table certificate →
      IsPlanOf base points relations table certificate
  plan_made well table certificate made = record { well_formed = well; header = made.0; plan = made.1 }

  module _ (well : IsWellFormed points.class base.rows) (result : Result (TableContent × CertificateContent) TailorFault)
      (made : IfOk result (λ answer. IsMade base points relations answer.0 answer.1)) where
    -- so it is when a plan is returned
    pub answer_accepted : ((table : TableContent) (certificate : CertificateContent) → IsPlanOf base points relations table certificate →
        IsAudited table certificate) → IfOk result (λ answer. IsAccepted (tailoring_of base points relations answer.0 answer.1))
    answer_accepted audited = go result made
      where
        go : (r : Result (TableContent × CertificateContent) TailorFault) → IfOk r (λ answer. IsMade base points relations answer.0 answer.1) →
            IfOk r (λ answer. IsAccepted (tailoring_of base points relations answer.0 answer.1))
        go (Ok answer) is = (audited answer.0 answer.1 (plan_made well answer.0 answer.1 is)).0
        go (Err fault) is = tt

    pub answer_faithful : ((table : TableContent) (certificate : CertificateContent) → IsPlanOf base points relations table certificate →
        IsAudited table certificate) → IfOk result (λ answer. IsFaithful (tailoring_of base points relations answer.0 answer.1))
    answer_faithful audited = go result made
      where
        go : (r : Result (TableContent × CertificateContent) TailorFault) → IfOk r (λ answer. IsMade base points relations answer.0 answer.1) →
            IfOk r (λ answer. IsFaithful (tailoring_of base points relations answer.0 answer.1))
        go (Ok answer) is = (audited answer.0 answer.1 (plan_made well answer.0 answer.1 is)).1
        go (Err fault) is = tt

  -- and where none is, there is a cause
  pub answer_refused : IsWellFormed points.class base.rows → (result : Result (TableContent × CertificateContent) TailorFault) →
      IfErr result (IsNotMade base points relations) → IfErr result (TailorRefuses base points relations)
  answer_refused well (Ok answer) none = tt
  answer_refused well (Err fault) none = refused_plan base points relations fault well none
