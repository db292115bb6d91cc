-- With one more row, and with all of them.
use Rattle.std.proofs.Common.{[], ap, ◌∙◌}
use Rattle.uca_plans.specs.Plans.{numbered_row}
use Rattle.uca_tailor.proofs.Mapped.{mapped_more, mapped_all}
use Rattle.uca_tailor.proofs.plan.number_rows.Goals as goal

pub loop-row-preserved : goal.loop-row-preserved
loop-row-preserved g c =
    mapped_more (numbered_row c.args.numbers.now) c.args.rows.now c.loop-row.row-index c.row-item.result [] c.loop-row.numbered.items c.push.new.self.items
    c.in_ok-number_row.field-0 c.loop-row-test.true (c.in_ok-number_row.ensures ∙ ap (numbered_row c.args.numbers.now) c.row-item.is)
    c.loop-row.invariant c.in_ok-push.ensures.items

pub returns : goal.returns
returns g c =
    mapped_all (numbered_row c.args.numbers.now) c.args.rows.now c.loop-row.row-index [] c.loop-row.numbered.items c.loop-row-test.false c.loop-row.invariant
