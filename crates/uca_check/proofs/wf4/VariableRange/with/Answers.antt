use Rattle.uca_check.proofs.VariableRangeLemmas.{span_with}
use Rattle.uca_check.proofs.wf4.VariableRange.with.Goals as goal

pub returns : goal.returns
returns c = λ all. span_with all c.args.self c.args.element _ _ c.requires c.min.ensures c.max.ensures
