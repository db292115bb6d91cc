-- Over a well-formed base every plan is an accepted tailoring.
use Rattle.std.specs.Prelude.{◌≡◌, List, Ok}
use Rattle.uca_values.specs.Content.{TableContent, Properties, IsTable}
use Rattle.uca_check.specs.WellFormed.{IsWellFormed}
use Rattle.uca_relations.specs.declared.Relation.{Relation}
use Rattle.uca_relations.specs.Relations.{AreRules}
use Rattle.uca_tailorings.specs.declared.conditions.Condition.{Condition}
use Rattle.uca_tailorings.specs.Tailorings.{Tailoring, IsTailoring, Meets}
use Rattle.uca_tailorings.specs.Meaning.{IsFaithful}
use Rattle.uca_tailorings.specs.Inputs.{tailoring_of}
use Rattle.uca_plans.specs.Plans.{Plan, planned}
use Rattle.uca_plans.specs.Tailors.{basis_of, table_of, certificate_of}

-- the table and the certificate of a plan, as a tailoring of the base
abbrev pub tailoring_by : TableContent → Properties → List Relation → Plan → Tailoring
tailoring_by base properties relations plan = tailoring_of base properties relations (table_of base plan) (certificate_of plan)

-- the plan of some rules over a well-formed base
pub record IsPlanFor (base : TableContent) (properties : Properties) (relations : List Relation) (plan : Plan) : Type 0 where
  pub table : IsTable base
  pub well_formed : IsWellFormed properties.class base.rows
  pub rules : AreRules relations
  pub is_planned : planned (basis_of base properties) relations ≡ Ok plan

-- every plan meets the condition
abbrev pub PlansMeet : Condition → Type 0
PlansMeet condition = (base : TableContent) (properties : Properties) (relations : List Relation) (plan : Plan) →
    IsPlanFor base properties relations plan → Meets (tailoring_by base properties relations plan) condition

-- every plan is accepted: it meets each condition
abbrev pub PlansAreAccepted : Type 0
PlansAreAccepted = (condition : Condition) → PlansMeet condition

-- every plan is a tailoring: its table is a table, and its maps rise
abbrev pub PlansMakeTailorings : Type 0
PlansMakeTailorings = (base : TableContent) (properties : Properties) (relations : List Relation) (plan : Plan) →
    IsPlanFor base properties relations plan → IsTailoring (tailoring_by base properties relations plan)

-- every plan is all that an accepted tailoring means
abbrev pub PlansAreFaithful : Type 0
PlansAreFaithful = (base : TableContent) (properties : Properties) (relations : List Relation) (plan : Plan) →
    IsPlanFor base properties relations plan → IsFaithful (tailoring_by base properties relations plan)
