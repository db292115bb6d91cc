-- The weight of the first four bytes, if there are as many.
use Rattle.std.proofs.Common.{Some, drop, ap, sym, ◌∙◌}
use Rattle.std.specs.Option.{option_map}
use Rattle.uca_lines.specs.Numbers.{weight_of}
use Rattle.uca_table.specs.inside.ElementSteps.{weight_at}
use Rattle.uca_table.proofs.elements.leading_weight.Goals as goal

pub returns-in_err-weight : goal.returns-in_err-weight
unfolding weight_at
returns-in_err-weight c =
    rw c.from_residual.ensures
    (ap (option_map (λ w. (w, drop 4 c.args.text.now))) (sym c.in_err-weight.was ∙ c.weight.ensures ∙ ap weight_of c.split_at.ensures.front))

pub returns : goal.returns
unfolding weight_at
returns c =
    ap (λ rest. Some (c.in_ok-weight.weight, rest)) c.split_at.ensures.back
    ∙ ap (option_map (λ w. (w, drop 4 c.args.text.now))) (sym c.in_ok-weight.was ∙ c.weight.ensures ∙ ap weight_of c.split_at.ensures.front)
