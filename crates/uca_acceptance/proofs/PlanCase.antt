-- A plan over a well-formed base, and its parts.
use Rattle.std.proofs.Common.{◌≡◌, ◌+◌, true, List, length}
use Rattle.uca_weights.specs.declared.Level.{Level}
use Rattle.uca_weights.specs.declared.Level.TheVariants.{One, Two, Three}
use Rattle.uca_values.specs.Content.{TableContent, Properties, IsTable}
use Rattle.uca_check.specs.WellFormed.{elements_of, IsWellFormed}
use Rattle.uca_relations.specs.declared.Relation.{Relation}
use Rattle.uca_relations.specs.Relations.{AreRules}
use Rattle.uca_plans.specs.Lists.{level_has_room}
use Rattle.uca_plans.specs.Plans.{Plan, LevelPlan, LevelPlans, level_plan}
use Rattle.uca_plans.specs.Tailors.{basis_of}
use Rattle.uca_plans.proofs.PlanSteps.{IsPlanned, planned_is, level_plans}
use Rattle.uca_plans.proofs.PlanLists.{HasGoodLists, good_planned}
use Rattle.uca_plans.proofs.PlanHolds.{Holds}
use Rattle.uca_plans.proofs.PlanRows.{holds_planned}
use Rattle.uca_acceptance.specs.Accepted.{IsPlanFor}

-- what is known of a plan
pub record IsCase (base : TableContent) (properties : Properties) (relations : List Relation) (plan : Plan) : Type 0 where
  pub table : IsTable base
  pub well : IsWellFormed properties.class base.rows
  pub rules : AreRules relations
  pub made : IsPlanned (basis_of base properties) relations plan

module _ (base : TableContent) (properties : Properties) (relations : List Relation) (plan : Plan) where
  -- a plan is such a case
  pub case_of : IsPlanFor base properties relations plan → IsCase base properties relations plan
  case_of is = record { table = is.table; well = is.well_formed; rules = is.rules; made = planned_is (basis_of base properties) relations plan is.is_planned }

  -- the three levels of the plan
  abbrev pub plans_in : IsCase base properties relations plan → LevelPlans
  plans_in case = level_plans (elements_of base.rows) case.made.drafting.insertions

  -- one of them
  abbrev pub plan_at : IsCase base properties relations plan → Level → LevelPlan
  plan_at case level = level_plan level (elements_of base.rows) case.made.drafting.insertions

  -- its list is good
  pub good_in : (case : IsCase base properties relations plan) → HasGoodLists (basis_of base properties) (0 + length relations) case.made.drafting
  good_in case = good_planned (basis_of base properties) relations plan case.made

  -- each level has room
  pub room_in : (case : IsCase base properties relations plan) (level : Level) → level_has_room level (plan_at case level).members ≡ true
  room_in case One = case.made.room_one
  room_in case Two = case.made.room_two
  room_in case Three = case.made.room_three

  -- what is true of its drafts
  pub holds_in : (case : IsCase base properties relations plan) → Holds (basis_of base properties) (0 + length relations) case.made.drafting
  holds_in case = holds_planned (basis_of base properties) relations plan case.made case.table.rows case.well.wf1 case.table.header.ranges case.rules.texts
