-- One relation of a plan: its step, what is true of the drafts before it, and what it reads and makes under the
-- tailored table.
use Rattle.std.proofs.Common.{◌≡◌, ◌+◌, List, ◌∷◌, ◌++◌, length, map, Option, Some, None, option_map, inl, inr, refl, ap, ◌∙◌, subst, arith}
use Rattle.uca_weights.proofs.Lists.{inside, each_parts}
use Rattle.uca_values.specs.Content.{TableContent, Properties}
use Rattle.uca_text.specs.Texts.{NfdText}
use Rattle.uca_elements.specs.Rows.{rows_of}
use Rattle.uca_relations.specs.declared.Relation.{Relation}
use Rattle.uca_relations.specs.Relations.{HasRuleTexts, AreRules}
use Rattle.uca_tailorings.specs.Tailorings.{tailored_reading, anchor_elements, expansion_elements, elements_of_expansion}
use Rattle.uca_plans.specs.declared.drafts.DraftElement.{DraftElement}
use Rattle.uca_plans.specs.Plans.{Plan, draft_expansion, begun}
use Rattle.uca_plans.specs.Tailors.{basis_of}
use Rattle.uca_plans.proofs.PlanSteps.{AreSteps}
use Rattle.uca_plans.proofs.PlanLists.{HasGrownLists, good_steps}
use Rattle.uca_plans.proofs.PlanHolds.{Holds, start}
use Rattle.uca_plans.proofs.PlanCarried.{listed_grown, anchor_at, carried}
use Rattle.uca_acceptance.specs.Accepted.{tailoring_by}
use Rattle.uca_acceptance.proofs.PlanCase.{IsCase}
use Rattle.uca_acceptance.proofs.TailoredReading.{value, tailored_read, tailored_row}
use Rattle.uca_acceptance.proofs.RelationSteps.{IsStepAt, step_at, target_kept, text_kept}
use Rattle.uca_acceptance.proofs.NumberedKinds.{IsListedIn}

module _ (base : TableContent) (properties : Properties) (relations : List Relation) (plan : Plan) (case : IsCase base properties relations plan)
    (before : List Relation) (r : Relation) (after : List Relation) (split : relations ≡ before ++ r ∷ after) where
  -- the relations are rules
  rules_in : AreRules (before ++ r ∷ after)
  rules_in = subst AreRules split case.rules

  -- so it has texts of rules
  pub texts_in : HasRuleTexts r
  texts_in = inside HasRuleTexts before r after rules_in.texts

  -- its step
  pub step_in : IsStepAt (basis_of base properties) before r after (begun (basis_of base properties)) case.made.drafting
  step_in =
      step_at (basis_of base properties) before r after (begun (basis_of base properties)) case.made.drafting
      (subst (λ rs. AreSteps (basis_of base properties) 0 rs (begun (basis_of base properties)) case.made.drafting) split case.made.steps)

  -- what is true of the drafts before it
  pub holds_before : Holds (basis_of base properties) (length before) step_in.here
  holds_before =
      let front = (each_parts HasRuleTexts before (r ∷ after) rules_in.texts).0 in
      let carries = carried (basis_of base properties) 0 before (begun (basis_of base properties)) step_in.here
      (start (basis_of base properties) case.table.rows.entries case.well.wf1) case.table.header.ranges front step_in.ahead in
      let place : 0 + length before ≡ length before = omega arith in
      subst (λ k. Holds (basis_of base properties) k step_in.here) place carries.behind

  -- the lists of the plan have grown since
  pub grown_since : HasGrownLists (basis_of base properties) (length before) step_in.here case.made.drafting
  grown_since =
      (good_steps (basis_of base properties) (length before) (r ∷ after) step_in.here case.made.drafting
      (step_in.next, step_in.step, step_in.behind) holds_before.lists).1

  -- so the elements before it are listed in the plan too
  pub held_listed : (e : DraftElement) → holds_before.E e → IsListedIn base properties relations plan case e
  held_listed e held =
      listed_grown (basis_of base properties) (length before) step_in.here case.made.drafting grown_since e (holds_before.listed e held)

  -- ---- Readings

  -- the elements of its anchor
  pub anchor_read : anchor_elements (tailoring_by base properties relations plan) r
      ≡ map (value base properties relations plan case) (anchor_at (basis_of base properties) step_in.here r)
  anchor_read =
      tailored_read base properties relations plan case r.anchor
      ∙ ap (map (value base properties relations plan case))
      (text_kept (basis_of base properties) before r after case.made.drafting r.anchor rules_in step_in (inl refl))

  -- and of its expansion
  pub expansion_read : expansion_elements (tailoring_by base properties relations plan) r
      ≡ map (value base properties relations plan case) (draft_expansion (basis_of base properties) step_in.here r.expansion)
  expansion_read = go r.expansion refl
    where
      -- by whether it is there
      go : (expansion : Option NfdText) → r.expansion ≡ expansion →
          elements_of_expansion (tailored_reading (tailoring_by base properties relations plan)) expansion
          ≡ map (value base properties relations plan case) (draft_expansion (basis_of base properties) step_in.here expansion)
      go None is = refl
      go (Some text) is =
          tailored_read base properties relations plan case text
          ∙ ap (map (value base properties relations plan case))
          (text_kept (basis_of base properties) before r after case.made.drafting text rules_in step_in (inr is))

  -- the row of its target
  pub row_read : rows_of plan.rows r.target.points ≡ Some (map (value base properties relations plan case) step_in.step.new.elements)
  row_read =
      tailored_row base properties relations plan case r.target.points
      ∙ ap (option_map (map (value base properties relations plan case)))
      (target_kept (basis_of base properties) before r after (begun (basis_of base properties)) case.made.drafting rules_in step_in)
