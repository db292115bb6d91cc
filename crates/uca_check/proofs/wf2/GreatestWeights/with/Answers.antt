use Rattle.uca_check.proofs.GreatestWeightLemmas.{raised_by_primary, raised_by_secondary, raised_by_none}
use Rattle.uca_check.proofs.wf2.GreatestWeights.with.Goals as goal

pub returns-then-element-ne0 : goal.returns-then-element-ne0
returns-then-element-ne0 c = λ all. raised_by_primary all c.args.self c.args.element _ _ c.if-element-ne0.true c.max.ensures c.max-then-element-ne0.ensures

pub returns-then-element-ne0-2 : goal.returns-then-element-ne0-2
returns-then-element-ne0-2 c = λ all. raised_by_secondary all c.args.self c.args.element _ c.if-element-ne0.false c.if-element-ne0-2.true c.max-then-element-ne0-2.ensures

pub returns : goal.returns
returns c = λ all. raised_by_none all c.args.self c.args.element c.if-element-ne0.false c.if-element-ne0-2.false
