-- The tailored table of a plan is well-formed.
use Rattle.std.proofs.Common.{List, map, sym, subst}
use Rattle.std.specs.List.{AllByRecursion}
use Rattle.uca_values.specs.Content.{TableContent, Properties, keys_of}
use Rattle.uca_check.specs.WellFormed.{MeetsWF1, MeetsWF5}
use Rattle.uca_weights.proofs.Lists.{each_weaker}
use Rattle.uca_relations.specs.declared.Relation.{Relation}
use Rattle.uca_tailorings.specs.declared.conditions.Condition.TheVariants.{TailoredIllFormed}
use Rattle.uca_plans.specs.Plans.{Plan, begun, numbered_row}
use Rattle.uca_plans.specs.Tailors.{basis_of}
use Rattle.uca_plans.proofs.PlanKeys.{keys_of_numbered}
use Rattle.uca_acceptance.specs.Accepted.{PlansMeet}
use Rattle.uca_acceptance.proofs.PlanCase.{IsCase, case_of, plans_in, holds_in}
use Rattle.uca_acceptance.proofs.WellWeights.{well_weights}
use Rattle.uca_acceptance.proofs.NumberedOrder.{meets_wf2, meets_wf3, meets_wf4}
use Rattle.uca_acceptance.proofs.NumberedKinds.{IsListedIn}
use Rattle.uca_acceptance.proofs.NumberedGaps.{gapless_rows}
use Rattle.uca_acceptance.proofs.ShorterKeys.{HaveShorter, rows_shorter, steps_shorter, begun_shorter}

module _ (base : TableContent) (properties : Properties) (relations : List Relation) (plan : Plan) (case : IsCase base properties relations plan) where
  -- its rows have no gaps, since its drafts have none
  pub meets_wf1 : AllByRecursion MeetsWF1 plan.rows
  meets_wf1 =
      let holds = holds_in base properties relations plan case in
      let listed = IsListedIn base properties relations plan case in
      subst (λ p. AllByRecursion MeetsWF1 p.rows) (sym case.made.is_plan)
      (gapless_rows base properties relations plan case case.made.drafting.rows
      (each_weaker (λ row. AllByRecursion holds.E row.elements) (λ row. AllByRecursion listed row.elements)
      (λ row held. each_weaker holds.E listed holds.listed row.elements held) case.made.drafting.rows holds.held)
      holds.gapless)

  -- and have the shorter keys, since each target had its own
  pub meets_wf5 : AllByRecursion (MeetsWF5 properties.class plan.rows) plan.rows
  meets_wf5 =
      let basis = basis_of base properties in
      let drafting = case.made.drafting in
      let have = steps_shorter basis 0 relations (begun basis) drafting case.made.steps (begun_shorter basis case.well.wf5) in
      let plans = plans_in base properties relations plan case in
      let rows = map (numbered_row plans) drafting.rows in
      let numbered : HaveShorter properties.class (keys_of rows) = subst (HaveShorter properties.class) (sym (keys_of_numbered plans drafting.rows)) have in
      subst (λ p. AllByRecursion (MeetsWF5 properties.class p.rows) p.rows) (sym case.made.is_plan) (rows_shorter properties.class rows rows numbered)

-- so its rows meet each condition
pub meets_well_formed : PlansMeet TailoredIllFormed
meets_well_formed base properties relations plan is =
    let case = case_of base properties relations plan is in
    let weights = well_weights base properties relations plan case in
    record {
      wf1 = meets_wf1 base properties relations plan case;
      wf2 = meets_wf2 base properties relations plan case weights;
      wf3 = meets_wf3 base properties relations plan case weights;
      wf4 = meets_wf4 base properties relations plan case weights;
      wf5 = meets_wf5 base properties relations plan case;
    }
