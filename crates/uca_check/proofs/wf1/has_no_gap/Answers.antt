use Rattle.std.proofs.Common.{sym, subst, refl, ap, ◌∙◌}
use Rattle.std.proofs.lemmas.Bool.{false≢true}
use Rattle.uca_check.proofs.GapLemmas.{AreGapless, none_gapless, none_ends, gapless_step, gap_step}
use Rattle.uca_check.proofs.wf1.has_no_gap.Goals as goal

pub loop-element-init : goal.loop-element-init
loop-element-init g c = record { gapless = none_gapless; behind = (λ h. absurd (false≢true h), λ h. absurd (none_ends h)) }

pub returns-then-not-may_stand : goal.returns-then-not-may_stand
returns-then-not-may_stand g c = (
  (λ h. absurd (false≢true h)),
  λ meets. absurd (gap_step c.deref-element-items.result.now c.loop-element.element-index _ _ c.loop-element.after_lead c.may_stand.result c.loop-element-test.true refl c.loop-element.invariant.behind c.may_stand.ensures c.if-not-may_stand.true (subst AreGapless (sym (c.deref-element-items.ensures.value ∙ ap (λ row. row.elements) c.row.view_is)) meets.gaps)),
)

pub loop-element-preserved : goal.loop-element-preserved
loop-element-preserved g c =
    let step = gapless_step c.deref-element-items.result.now c.loop-element.element-index _ _ c.loop-element.after_lead c.is_lead-after_lead.result c.may_stand.result c.loop-element-test.true refl c.loop-element.invariant.gapless c.loop-element.invariant.behind c.may_stand.ensures c.if-not-may_stand.false c.is_lead-after_lead.ensures in
    record { gapless = step.0; behind = step.1 }
