use Rattle.std.proofs.Common.{Option, subst}
use Rattle.uca_weights.specs.declared.Element.{Element}
use Rattle.uca_text_comparer.specs.inside.Shared.{IsFirst}
use Rattle.uca_text_comparer.proofs.PrimarySteps.{some_weight, none_weight}
use Rattle.uca_text_comparer.proofs.primaries.first_weight.Goals as goal

pub returns-in-Some : goal.returns-in-Some
returns-in-Some c = λ elements flag passed first.
    some_weight c.args.weighting c.in-Some.element elements flag passed c.primary_of.result
    (subst (λ (o : Option Element). IsFirst o elements) c.in-Some.is first) c.primary_of.ensures

pub returns-in-None : goal.returns-in-None
returns-in-None c = λ elements flag passed first.
    none_weight c.args.weighting elements flag passed (subst (λ (o : Option Element). IsFirst o elements) c.in-None.is first)
