use Rattle.std.proofs.Common.{take, subst}
use Rattle.uca_check.specs.WellFormed.{elements_of}
use Rattle.uca_check.specs.Searches.{IsVariableRangeIfAny}
use Rattle.uca_check.proofs.Elements.{after_more}
use Rattle.uca_check.proofs.wf4.variable_range.Goals as goal

pub loop-element-preserved : goal.loop-element-preserved
loop-element-preserved g c =
    subst (λ all. IsVariableRangeIfAny all c.wider-range.result)
    (after_more (elements_of (take c.loop-row.row-index c.args.rows.now)) c.deref-element-items.result.now c.loop-element.element-index _ c.loop-element-test.true)
    (c.wider-range.ensures _ c.loop-element.invariant)
