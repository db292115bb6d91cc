use Rattle.std.proofs.Common.{sym, ap, ◌∙◌}
use Rattle.uca_plans.specs.Drafts.{anchor_part}
use Rattle.uca_tailor.proofs.DraftLemmas.AnchorParts.{ignorable_last, not_ignorable_last}
use Rattle.uca_tailor.proofs.drafts.elements.take_last.Goals as goal

pub returns-then-not-is_ignorable_to : goal.returns-then-not-is_ignorable_to
returns-then-not-is_ignorable_to g c =
    sym c.loop-last.invariant ∙ ap (anchor_part c.args.level) c.in-Some.ensures.items
    ∙ not_ignorable_last c.args.level c.pop.new.self.items c.in-Some.last (sym c.is_ignorable_to.ensures ∙ c.if-not-is_ignorable_to.true)

pub loop-last-preserved : goal.loop-last-preserved
loop-last-preserved g c =
    sym (ignorable_last c.args.level c.pop.new.self.items c.in-Some.last (sym c.is_ignorable_to.ensures ∙ c.if-not-is_ignorable_to.false))
    ∙ sym (ap (anchor_part c.args.level) c.in-Some.ensures.items) ∙ c.loop-last.invariant
