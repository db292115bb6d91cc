-- Two texts that differ at level 1 after what they have in common at their begin.
use Rattle.std.specs.Prelude.{◌≡◌, ℕ, List, ◌++◌}
use Rattle.std.specs.declared.cmp.Ordering.{Ordering}
use Rattle.uca_weights.specs.declared.Depth.{Depth}
use Rattle.uca_weights.specs.declared.Numbers.{Numbers}
use Rattle.uca_weights.specs.declared.Weighting.{Weighting}
use Rattle.uca_elements.specs.Collations.{Collation}
use Rattle.uca_order.specs.Depths.{compared_at, written}
use Rattle.uca_text_comparer.specs.inside.Pairs.{read_as}

-- the texts `xs` and `ys` begin with the same code points, which `left` and `right` follow
pub record HaveRests (xs ys left right : List ℕ) : Type 0 where
  pub shared : List ℕ
  pub left_is : xs ≡ shared ++ left
  pub right_is : ys ≡ shared ++ right

-- at either depth the texts have this order, by level 1
abbrev pub DifferFirst : Collation → Weighting → (xs ys : List ℕ) → Ordering → Type 0
DifferFirst c weighting xs ys order = (depth : Depth) → let answer = compared_at depth weighting (read_as c xs xs) (read_as c ys ys) in
    (answer.order ≡ order) × (answer.level ≡ 1)

-- both texts are read as they are
abbrev pub AreReadAsText : Numbers → (xs ys : List ℕ) → Type 0
AreReadAsText numbers xs ys = (written numbers xs ≡ xs) × (written numbers ys ≡ ys)
