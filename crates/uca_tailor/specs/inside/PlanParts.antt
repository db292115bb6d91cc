-- The parts of a plan.
use Rattle.std.specs.Prelude.{◌≡◌, ◌⊎◌, List, [], Ok, Err}
use Rattle.uca_values.specs.Content.{TableContent, Properties, IsTable}
use Rattle.uca_check.specs.WellFormed.{elements_of}
use Rattle.uca_relations.specs.declared.Relation.{Relation}
use Rattle.uca_certificates.specs.Certificates.{CertificateContent, IsCertificate}
use Rattle.uca_plans.specs.declared.faults.TailorFault.{TailorFault}
use Rattle.uca_plans.specs.Plans.{Drafting, LevelPlans, plan_of, plan_drafted, planned}
use Rattle.uca_plans.specs.Tailors.{basis_of, plan_in, table_of, certificate_of, out_of_memory}

-- the certificate of numbers, which no row has a part in
abbrev pub certificate_by : LevelPlans → CertificateContent
certificate_by numbers = certificate_of (plan_of [] numbers)

-- If some numbers make the drafts a plan, its rows are those of a table, and its numbers those of a certificate.
abbrev pub AreSound : TableContent → Drafting → Type 0
AreSound base drafting = (numbers : LevelPlans) →
    plan_drafted (elements_of base.rows) (Ok drafting) ≡ Ok (plan_of drafting.rows numbers) →
    (IsTable base → IsTable (table_of base (plan_of drafting.rows numbers))) × IsCertificate (certificate_by numbers)

-- a table with the base's header and a certificate are the plan
abbrev pub IsMade : TableContent → Properties → List Relation → TableContent → CertificateContent → Type 0
IsMade base properties relations table certificate =
    (table.header ≡ base.header) × (planned (basis_of base properties) relations ≡ Ok (plan_in table certificate))

-- there is none, for this reason, or an allocation failed
abbrev pub IsNotMade : TableContent → Properties → List Relation → TailorFault → Type 0
IsNotMade base properties relations fault =
    (planned (basis_of base properties) relations ≡ Err fault) ⊎ (fault ≡ out_of_memory)
