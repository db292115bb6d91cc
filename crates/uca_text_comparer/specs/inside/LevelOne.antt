-- How two texts compare at level 1, code point by code point.
use Rattle.std.specs.Prelude.{◌≡◌, ◌≢◌, ◌⊎◌, ℕ, List, [], ◌∷◌, true}
use Rattle.uca_weights.specs.declared.Weighting.{Weighting}
use Rattle.uca_elements.specs.Collations.{Collation}
use Rattle.uca_comparison.specs.Walks.{order_at}
use Rattle.uca_text_comparer.specs.declared.heads.Head.{Head}
use Rattle.uca_text_comparer.specs.Heads.{IsTrueHead}
use Rattle.uca_text_comparer.specs.inside.Shared.{BeginsPlain, text_elements}

-- If the weight of the head is not 0, the text begins with a code point of this head, and `rest` comes next. If it is 0, and the
-- head says that it is alone, the text ends.
pub record HasNext (c : Collation) (weighting : Weighting) (xs rest : List ℕ) (head : Head) : Type 0 where
  pub ends : head.weight ≡ 0 → head.alone ≡ true → xs ≡ []
  pub goes_on : head.weight ≢ 0 → (x : ℕ) × (xs ≡ x ∷ rest) × IsTrueHead c weighting x head

-- such a head decides where another one has another weight
abbrev pub Decides : Head → Type 0
Decides head = (head.weight ≢ 0) ⊎ (head.alone ≡ true)

-- At level 1 the texts `xs` and `ys` compare as what is left of them, `left` and `right`. So it is if each of these is empty or begins
-- with a plain code point.
abbrev pub CompareAsRests : Collation → Weighting → (xs ys left right : List ℕ) → Type 0
CompareAsRests c weighting xs ys left right = BeginsPlain c left → BeginsPlain c right →
    order_at weighting (text_elements c xs) (text_elements c ys) 1 ≡ order_at weighting (text_elements c left) (text_elements c right) 1
