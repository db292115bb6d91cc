use Rattle.std.proofs.Common.{ap, ◌∙◌}
use Rattle.uca_plans.specs.Drafts.{row_as_draft}
use Rattle.uca_tailor.proofs.Mapped.{mapped_more, mapped_all}
use Rattle.uca_tailor.proofs.drafts.drafting.push_base.Goals as goal

pub loop-row-preserved : goal.loop-row-preserved
loop-row-preserved g c =
    mapped_more row_as_draft c.args.base.now c.loop-row.row-index c.row-item.result c.args.rows.now.items c.loop-row.rows.items c.push.new.self.items
    c.of_base.result c.loop-row-test.true (c.of_base.ensures ∙ ap row_as_draft c.row-item.is) c.loop-row.invariant c.in_ok-push.ensures.items

pub returns : goal.returns
returns g c =
    mapped_all row_as_draft c.args.base.now c.loop-row.row-index c.args.rows.now.items c.loop-row.rows.items c.loop-row-test.false c.loop-row.invariant
