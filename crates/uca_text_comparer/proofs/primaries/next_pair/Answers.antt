use Rattle.std.proofs.Common.{ℕ, arith, length, ap, subst, ◌∙◌}
use Rattle.std.specs.Str.{chars}
use Rattle.uca_text_comparer.specs.Heads.{IsHeaded}
use Rattle.uca_text_comparer.proofs.PrimarySteps.{together_on}
use Rattle.uca_text_comparer.proofs.primaries.next_pair.Goals as goal

pub returns-clause-together : goal.returns-clause-together
returns-clause-together g c = λ collation xs ys entries together.
    let elements = c.all_elements-elements.result.now in
    let one = c.in_ok-known.ensures.entry collation entries c.in_ok-known.ensures.few in
    let two = c.in_ok-other.ensures.entry collation entries c.in_ok-other.ensures.few in
    together_on collation c.args.weighting xs ys _ _ (chars c.in_ok-known.left.now) (chars c.in_ok-other.right.now) c.in_ok-known.known.now.point
    c.in_ok-other.other.now.point elements c.all_elements-others.result.now c.in_ok-found.found _ _ _ _ together c.in_ok-known.ensures.text
    c.in_ok-other.ensures.text one.0 two.0 (c.all_elements-elements.ensures.value ∙ one.1) (c.all_elements-others.ensures.value ∙ two.1)
    (subst (λ (w : ℕ). IsHeaded c.args.weighting w elements) c.if-weight-found.false c.in_ok-weight.ensures) c.in_ok-found.ensures
    c.saturating_add.ensures c.saturating_add-2.ensures

pub returns-clause-shorter : goal.returns-clause-shorter
returns-clause-shorter g c = omega (arith, ap length c.in_ok-known.ensures.text)
