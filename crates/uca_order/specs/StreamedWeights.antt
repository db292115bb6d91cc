-- The weights of elements that are read one at a time. In place of the list of the earlier elements, a
-- flag says whether the nearest of them with a non-zero primary is variable.
use Rattle.std.specs.Prelude.{◌≡◌, ℕ, List, [], ◌∷◌, Bool, false, if◌then◌else◌}
use Rattle.uca_weights.specs.declared.Element.{Element}
use Rattle.uca_weights.specs.declared.Weighting.{Weighting}
use Rattle.uca_order.specs.Levels.{Weights, is_ignorable, follows_variable, weights_of, weight_at, weighted, weighted_following}

-- the weights at the levels 1 to 4, 0 at a level that there is not
abbrev pub at_four_levels : Weights → List ℕ
at_four_levels ws = weight_at 1 ws ∷ weight_at 2 ws ∷ weight_at 3 ws ∷ weight_at 4 ws ∷ []

-- the flag after one more element: one without a primary weight leaves it as it was
abbrev pub is_after_variable : Bool → Element → Bool
is_after_variable after_variable e = if is_ignorable e then after_variable else e.mark

-- each element's weights, after elements whose flag is known
abbrev pub weighted_after : Weighting → Bool → List Element → List Weights
weighted_after weighting after_variable [] = []
weighted_after weighting after_variable (e ∷ es) =
    weights_of weighting after_variable e ∷ weighted_after weighting (is_after_variable after_variable e) es

-- With the flag elements have the weights that they have with the earlier elements.
pub record WeightsMayBeStreamed : Type 0 where
  pub after : (weighting : Weighting) (earlier es : List Element) →
      weighted_after weighting (follows_variable earlier) es ≡ weighted_following weighting earlier es
  pub whole : (weighting : Weighting) (es : List Element) → weighted_after weighting false es ≡ weighted weighting es
