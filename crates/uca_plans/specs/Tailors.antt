-- When a table and a certificate are the plan of rules over a base, and why there is no plan.
use Rattle.std.specs.Prelude.{◌≡◌, List, Ok, Err}
use Rattle.uca_values.specs.Content.{TableContent, Properties}
use Rattle.uca_check.specs.WellFormed.{IsWellFormed}
use Rattle.uca_relations.specs.declared.Relation.{Relation}
use Rattle.uca_certificates.specs.Certificates.{CertificateContent}
use Rattle.uca_plans.specs.declared.faults.TailorFault.{TailorFault}
use Rattle.uca_plans.specs.declared.faults.TailorKind.{TailorKind}
use Rattle.uca_plans.specs.declared.faults.TailorKind.TheVariants as kinds
use Rattle.uca_plans.specs.Plans.{Basis, Plan, planned}

-- what a plan over a base is made over
abbrev pub basis_of : TableContent → Properties → Basis
basis_of base properties = record { ranges = base.header.ranges; properties = properties; base = base.rows }

-- a tailored table and a certificate as a plan, and a plan as these two
abbrev pub plan_in : TableContent → CertificateContent → Plan
plan_in table certificate = record { rows = table.rows; primary = certificate.primary; secondary = certificate.secondary; tertiary = certificate.tertiary }

abbrev pub table_of : TableContent → Plan → TableContent
table_of base plan = record { header = base.header; rows = plan.rows }

abbrev pub certificate_of : Plan → CertificateContent
certificate_of plan = record { primary = plan.primary; secondary = plan.secondary; tertiary = plan.tertiary }

-- the base is well-formed, and the tailored table, which has the base's header, and the certificate are the plan
pub record IsPlanOf (base : TableContent) (properties : Properties) (relations : List Relation) (table : TableContent)
    (certificate : CertificateContent) : Type 0 where
  pub well_formed : IsWellFormed properties.class base.rows
  pub header : table.header ≡ base.header
  pub plan : planned (basis_of base properties) relations ≡ Ok (plan_in table certificate)

-- the base is well-formed, and this rejection comes first
pub record IsRefusedBy (base : TableContent) (properties : Properties) (relations : List Relation) (fault : TailorFault) : Type 0 where
  pub well_formed : IsWellFormed properties.class base.rows
  pub first : planned (basis_of base properties) relations ≡ Err fault

-- an allocation failed
abbrev pub out_of_memory : TailorFault
out_of_memory = record { kind = kinds.Memory; relation = 0 }

-- why there is no tailored table, by the kind of the error; `Memory` may always come, since any allocation may fail
abbrev pub CauseOf : TableContent → Properties → List Relation → TailorFault → TailorKind → Type 0
CauseOf base properties relations fault kinds.BaseIllFormed = (fault.relation ≡ 0) × ¬ (IsWellFormed properties.class base.rows)
CauseOf base properties relations fault kinds.Memory = fault.relation ≡ 0
CauseOf base properties relations fault _ = IsRefusedBy base properties relations fault

abbrev pub TailorRefuses : TableContent → Properties → List Relation → TailorFault → Type 0
TailorRefuses base properties relations fault = CauseOf base properties relations fault fault.kind
