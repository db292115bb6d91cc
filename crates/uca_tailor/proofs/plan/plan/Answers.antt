use Rattle.std.proofs.Common.{◌≡◌, ◌⊎◌, IfOk, Ok, Err, sym, subst}
use Rattle.std.specs.Prelude.{IfErr}
use Rattle.uca_values.specs.Content.{properties_of}
use Rattle.uca_check.specs.WellFormed.{elements_of}
use Rattle.uca_plans.specs.Plans.{plan_of, plan_drafted}
use Rattle.uca_plans.specs.Tailors.{basis_of, plan_in, out_of_memory}
use Rattle.uca_plans.proofs.PlanRows.{table_in}
use Rattle.uca_tailor.proofs.PartLaws.{planned_by, certificate_planned}
use Rattle.uca_tailor.proofs.plan.plan.Goals as goal

pub plan_of_drafts-requires-clause-sound : goal.plan_of_drafts-requires-clause-sound
plan_of_drafts-requires-clause-sound g c numbers are =
    let basis = basis_of c.args.base.now (properties_of c.args.properties.now) in
    let drafting = c.in_ok-drafting.drafting in
    let planned = planned_by basis c.args.rules.now drafting numbers c.in_ok-drafting.ensures.drafted are in (
      λ table. table_in c.args.base.now (properties_of c.args.properties.now) c.args.rules.now (plan_of drafting.rows numbers) planned table
          c.requires c.relations.ensures.rules,
      certificate_planned basis c.args.rules.now drafting.rows numbers planned,
    )

pub returns-clause-made : goal.returns-clause-made
returns-clause-made g c =
    subst (λ drafts. IfOk c.plan_of_drafts.result (λ answer. (answer.0.header ≡ c.args.base.now.header)
    × (plan_drafted (elements_of c.args.base.now.rows) drafts ≡ Ok (plan_in answer.0 answer.1)))) (sym c.in_ok-drafting.ensures.drafted)
    c.plan_of_drafts.ensures.made

pub returns-clause-not_made : goal.returns-clause-not_made
returns-clause-not_made g c =
    subst (λ drafts. IfErr c.plan_of_drafts.result (λ fault. (plan_drafted (elements_of c.args.base.now.rows) drafts ≡ Err fault)
    ⊎ (fault ≡ out_of_memory))) (sym c.in_ok-drafting.ensures.drafted) c.plan_of_drafts.ensures.not_made
