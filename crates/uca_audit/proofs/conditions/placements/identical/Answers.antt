use Rattle.std.proofs.Common.{◌≡◌, ◌++◌, None, Some, refl, ap, ◌∙◌, rules}
use Rattle.std.proofs.lemmas.Slice.Eq.{strip_prefix_is}
use Rattle.uca_audit.proofs.conditions.placements.identical.Goals as goal

pub returns-in_err-rest : goal.returns-in_err-rest
returns-in_err-rest c =
    rw c.from_residual.ensures
    (strip_prefix_is (λ a b. search rules) c.args.row.now c.args.anchor.now None c.in_err-rest.ensures.cases c.args.expansion.now)

pub returns : goal.returns
returns c =
    let front : c.args.row.now ≡ c.args.anchor.now ++ c.in_ok-rest.rest.now =
    strip_prefix_is (λ a b. search rules) c.args.row.now c.args.anchor.now (Some c.in_ok-rest.rest) c.in_ok-rest.ensures.cases in
    (refl, front ∙ ap (λ rest. c.args.anchor.now ++ rest) (c.are_same.ensures.0 c.if-not-are_same.false))
