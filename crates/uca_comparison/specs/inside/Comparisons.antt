-- How two texts compare at all levels of a weighting, and after them.
use Rattle.std.specs.Prelude.{◌≡◌, ℕ, suc, List, ⊤}
use Rattle.std.specs.declared.cmp.Ordering.TheVariants.{Equal}
use Rattle.std.specs.declared.cmp.Ordering.{Ordering}
use Rattle.uca_weights.specs.declared.Depth.{Depth}
use Rattle.uca_weights.specs.declared.Depth.TheVariants.{Identical}
use Rattle.uca_weights.specs.declared.Element.{Element}
use Rattle.uca_weights.specs.declared.Weighting.{Weighting}
use Rattle.uca_comparison.specs.declared.walk.Walked.{Walked}
use Rattle.uca_order.specs.Levels.{Comparison, level_count, lexicographic, decided, compared}
use Rattle.uca_comparison.specs.Walks.{fetched_left_at, fetched_right_at}

pub record ComparesLevels (weighting : Weighting) (es fs : List Element) (w : Walked) : Type 0 where
  pub order_is : w.order ≡ (compared weighting es fs).order
  pub level_is : w.level ≡ (compared weighting es fs).level
  pub left_is : w.fetched_left ≡ fetched_left_at weighting es fs 1
  pub right_is : w.fetched_right ≡ fetched_right_at weighting es fs 1

-- code points come after all levels of the weights
abbrev pub compared_points : Weighting → List ℕ → List ℕ → Comparison
compared_points weighting left right = decided (lexicographic left right) (suc (level_count weighting)) (record { order = Equal; level = 0 })

-- after this order at the levels of the weights nothing else decides
abbrev pub NothingElseDecides : Ordering → Depth → List ℕ → List ℕ → Type 0
NothingElseDecides Equal Identical left right = left ≡ right
NothingElseDecides order depth left right = ⊤
