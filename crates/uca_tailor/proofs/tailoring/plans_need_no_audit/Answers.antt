use Rattle.std.proofs.Common.{subst, ap, ◌∙◌}
use Rattle.uca_values.specs.Content.{TableContent, IsTable, IsHeader, AreRows}
use Rattle.uca_tailor.proofs.PlanAudits.{plan_audited}
use Rattle.uca_tailor.proofs.tailoring.plans_need_no_audit.Goals as goal

pub returns : goal.returns
returns g c =
    let table : IsTable c.args.base.now = record {
      header = subst IsHeader (c.header.view_is ∙ ap (λ (t : TableContent). t.header) c.base.view_is) c.header.invariant;
      rows = subst (λ (t : TableContent). AreRows t.rows) c.base.view_is c.base.invariant;
    } in
    λ points answer certificate is.
    plan_audited c.args.base.now points c.args.rules.now c.plans_are_accepted.ensures c.plans_are_faithful.ensures table
    c.relations.ensures.rules answer certificate is
