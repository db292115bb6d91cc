use Rattle.std.proofs.Common.{false}
use Rattle.uca_plans.specs.Drafts.{as_draft}
use Rattle.uca_tailor.proofs.Mapped.{mapped_more, mapped_all}
use Rattle.uca_tailor.proofs.RowElements.{no_element}
use Rattle.uca_tailor.proofs.drafts.row_drafts.append_as_drafts.Goals as goal

pub loop-element-preserved : goal.loop-element-preserved
loop-element-preserved g c =
    mapped_more (as_draft false) c.args.own.now c.loop-element.element-index no_element c.args.elements.now.items c.loop-element.elements.items c.push.new.self.items c.as_draft.result
    c.loop-element-test.true c.as_draft.ensures c.loop-element.invariant c.in_ok-push.ensures.items

pub returns : goal.returns
returns g c =
    mapped_all (as_draft false) c.args.own.now c.loop-element.element-index c.args.elements.now.items c.loop-element.elements.items
    c.loop-element-test.false c.loop-element.invariant
