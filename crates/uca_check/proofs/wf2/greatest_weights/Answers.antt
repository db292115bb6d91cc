use Rattle.std.proofs.Common.{take, subst}
use Rattle.uca_check.specs.WellFormed.{elements_of}
use Rattle.uca_check.specs.Searches.{AreGreatestWeights}
use Rattle.uca_check.proofs.Elements.{after_more}
use Rattle.uca_check.proofs.wf2.greatest_weights.Goals as goal

pub loop-element-preserved : goal.loop-element-preserved
loop-element-preserved g c =
    subst (λ all. AreGreatestWeights all c.with-greatest.result)
    (after_more (elements_of (take c.loop-row.row-index c.args.rows.now)) c.deref-element-items.result.now c.loop-element.element-index _ c.loop-element-test.true)
    (c.with-greatest.ensures _ c.loop-element.invariant)
