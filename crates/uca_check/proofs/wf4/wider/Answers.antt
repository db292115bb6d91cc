use Rattle.std.proofs.Common.{subst, rules}
use Rattle.uca_check.specs.Searches.{IsVariableRangeIfAny}
use Rattle.uca_check.proofs.VariableRangeLemmas.{span_without, span_of_first}
use Rattle.uca_check.proofs.wf4.wider.Goals as goal

pub returns-then-not-element : goal.returns-then-not-element
returns-then-not-element c = λ all. span_without all c.args.range c.args.element (search rules)

pub returns-in_default : goal.returns-in_default
returns-in_default c = λ all none. span_of_first all c.args.element (search rules) (subst (IsVariableRangeIfAny all) c.in_default.is none)
