use Rattle.std.proofs.Common.{inr, sym, ap, ap₂, ◌∙◌, Ok}
use Rattle.std.proofs.lemmas.Result.{IfOk-weaker, IfErr-weaker}
use Rattle.uca_values.specs.Content.{TableContent}
use Rattle.uca_plans.specs.Tailors.{plan_in}
use Rattle.uca_tailor.proofs.plan.plan_of_drafts.Goals as goal

pub numbered_plan-requires-clause-table : goal.numbered_plan-requires-clause-table
numbered_plan-requires-clause-table g c = (c.requires.sound c.in_ok-numbers.numbers c.in_ok-numbers.ensures.numbers).0

pub numbered_plan-requires-clause-certificate : goal.numbered_plan-requires-clause-certificate
numbered_plan-requires-clause-certificate g c = (c.requires.sound c.in_ok-numbers.numbers c.in_ok-numbers.ensures.numbers).1

pub returns-clause-made : goal.returns-clause-made
returns-clause-made g c =
    let plan = c.in_ok-numbers.ensures.numbers in
    IfOk-weaker c.numbered_plan.result _ _ (λ answer are. (ap (λ (t : TableContent). t.header) are.0, plan ∙ ap Ok (sym (ap₂ plan_in are.0 are.1))))
    c.numbered_plan.ensures.made

pub returns-clause-not_made : goal.returns-clause-not_made
returns-clause-not_made g c = IfErr-weaker c.numbered_plan.result _ _ (λ fault is. inr is) c.numbered_plan.ensures.not_made
