-- Weights by a flag instead of the earlier elements, and which elements have none.
use Rattle.std.proofs.Common.{◌≡◌, ◌↔◌, ℕ, List, [], ◌∷◌, nat_eq, ◌&&◌, refl, ap, arith, IsTrue}
use Rattle.std.proofs.lemmas.Bool.Decides.{nat_tests}
use Rattle.uca_weights.specs.declared.Element.{Element}
use Rattle.uca_weights.specs.declared.Weighting.{Weighting}
use Rattle.uca_order.specs.Levels.{weights_of, weighted_following, follows_variable}
use Rattle.uca_order.specs.StreamedWeights.{weighted_after, WeightsMayBeStreamed}
use Rattle.uca_order.specs.Laws.{FindsCompletelyIgnorable}

-- the flag says all that the earlier elements do
pub weighted_after-follows : (weighting : Weighting) (earlier es : List Element)
    → weighted_after weighting (follows_variable earlier) es ≡ weighted_following weighting earlier es
weighted_after-follows weighting earlier [] = refl
weighted_after-follows weighting earlier (e ∷ es) =
    ap (λ l. weights_of weighting (follows_variable earlier) e ∷ l) (weighted_after-follows weighting (e ∷ earlier) es)

-- so elements may be weighted one at a time
pub streamed : WeightsMayBeStreamed
streamed = record { after = weighted_after-follows; whole = λ weighting es. weighted_after-follows weighting [] es }

-- three numbers are 0 exactly where the test of each is true
pub all_zero : (a b c : ℕ) → IsTrue (nat_eq a 0 && nat_eq b 0 && nat_eq c 0) ↔ ((a ≡ 0) × (b ≡ 0) × (c ≡ 0))
all_zero a b c = grind (arith, nat_tests)

-- so the test finds what is completely ignorable
pub finds : FindsCompletelyIgnorable
finds e = all_zero e.primary e.secondary e.tertiary
