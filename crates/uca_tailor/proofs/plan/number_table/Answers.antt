use Rattle.std.proofs.Common.{◌≡◌, map, ap, sym, subst, ◌∙◌}
use Rattle.uca_values.specs.Content.{TableContent, IsTable, IsHeader, AreRows}
use Rattle.uca_plans.specs.Plans.{numbered_row}
use Rattle.uca_tailor.proofs.plan.number_table.Goals as goal

pub invariant_of-result : goal.invariant_of-result
invariant_of-result g c =
    let table : IsTable c.args.base.now = record {
      header = subst IsHeader (c.header.view_is ∙ c.in_ok-header.ensures ∙ ap (λ (t : TableContent). t.header) c.base.view_is) c.header.invariant;
      rows = subst (λ (t : TableContent). AreRows t.rows) c.base.view_is c.base.invariant;
    } in
    let rows : c.in_ok-rows.rows.items ≡ map (numbered_row c.args.numbers.now) c.args.drafting.now.rows =
    c.in_ok-rows.ensures ∙ ap (map (numbered_row c.args.numbers.now)) c.rows.ensures in
    subst AreRows (sym rows) (c.requires table).rows
