-- Two texts that are read side by side at level 1.
use Rattle.std.specs.Prelude.{◌≡◌, ◌≤◌, ℕ, List, ◌++◌, Bool, flat_map}
use Rattle.uca_weights.specs.declared.Element.{Element}
use Rattle.uca_weights.specs.declared.Weighting.{Weighting}
use Rattle.uca_elements.specs.Collations.{Collation}
use Rattle.uca_comparison.specs.Walks.{Stands, none_decided}
use Rattle.uca_plain.specs.Plain.{ArePlain, elements_alone}

-- The texts `xs` and `ys` begin with plain code points, which `left` and `right` follow. Up to there they have the same weights at
-- level 1, whatever follows, and so many elements.
pub record GoTogether (c : Collation) (weighting : Weighting) (xs ys left right : List ℕ) (passed_left passed_right : ℕ) : Type 0 where
  pub before_left : List ℕ
  pub before_right : List ℕ
  pub left_is : xs ≡ before_left ++ left
  pub right_is : ys ≡ before_right ++ right
  pub plain_left : ArePlain c before_left
  pub plain_right : ArePlain c before_right
  pub few_left : passed_left ≤ 18446744073709551615
  pub few_right : passed_right ≤ 18446744073709551615
  pub flag_left : Bool
  pub flag_right : Bool
  pub stands : (ls rs : List Element)
      → Stands weighting (flat_map (elements_alone c) before_left ++ ls) (flat_map (elements_alone c) before_right ++ rs)
      (record { elements = ls; after_variable = flag_left; passed = passed_left })
      (record { elements = rs; after_variable = flag_right; passed = passed_right }) (none_decided 1 1)
