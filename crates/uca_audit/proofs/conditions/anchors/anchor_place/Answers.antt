use Rattle.std.proofs.Common.{sym, ◌∙◌}
use Rattle.std.proofs.lemmas.Bool.{false≢true}
use Rattle.uca_audit.proofs.AnchorSteps.{none_of_ignorable, none_of_last}
use Rattle.uca_audit.proofs.conditions.anchors.anchor_place.Goals as goal

pub returns-in_err-at : goal.returns-in_err-at
returns-in_err-at c = rw c.from_residual.ensures (none_of_ignorable c.args.level c.args.elements.now c.in_err-at.ensures)

pub returns-else-takes_weight : goal.returns-else-takes_weight
returns-else-takes_weight c =
    none_of_last c.args.level c.args.elements.now c.in_ok-at.at _ c.in_ok-at.ensures
    (λ takes. false≢true (sym c.if-takes_weight.false ∙ c.takes_weight.ensures.1 takes))
