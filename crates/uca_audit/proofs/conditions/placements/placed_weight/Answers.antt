use Rattle.std.proofs.Common.{◌≡◌, ◌∷◌, ◌++◌, None, Some, ap, ap₂, ◌∙◌, rules}
use Rattle.std.proofs.lemmas.Slice.Eq.{strip_prefix_is}
use Rattle.uca_tailorings.specs.Placing.{reweighted}
use Rattle.uca_audit.proofs.conditions.placements.placed_weight.Goals as goal

pub returns-in_err-rest : goal.returns-in_err-rest
returns-in_err-rest c =
    rw c.from_residual.ensures
    (λ w. strip_prefix_is (λ a b. search rules) c.args.row.now c.args.before.now None c.in_err-rest.ensures.cases
    (reweighted c.args.level w c.args.last ∷ c.args.expansion.now))

pub returns : goal.returns
returns c =
    let front : c.args.row.now ≡ c.args.before.now ++ c.in_ok-rest.rest.now =
    strip_prefix_is (λ a b. search rules) c.args.row.now c.args.before.now (Some c.in_ok-rest.rest) c.in_ok-rest.ensures.cases in
    let first : c.in_ok-first.first.now ≡ reweighted c.args.level c.weight-new.result c.args.last =
    c.is_same.ensures.0 c.if-not-is_same.false ∙ c.reweighted.ensures in
    let after : c.in_ok-first.after.now ≡ c.args.expansion.now = c.are_same.ensures.0 c.if-not-are_same.false in
    front ∙ ap (λ rest. c.args.before.now ++ rest) (c.in_ok-first.ensures.cases.0 ∙ ap₂ (λ e es. e ∷ es) first after)
