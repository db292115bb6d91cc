-- Where a comparison is in a text. Only contracts of the parts of comparisons cite this file.
use Rattle.std.specs.Prelude.{◌≡◌, ℕ, zero, suc, ◌+◌, List, [], ◌∷◌, Bool, true, false, map, min, Option, Some, None}
use Rattle.uca_weights.specs.declared.Element.{Element}
use Rattle.uca_weights.specs.declared.Weighting.{Weighting}
use Rattle.uca_order.specs.Levels.{weight_at}
use Rattle.uca_order.specs.StreamedWeights.{is_after_variable, weighted_after}

-- the elements from the front on, whether the nearest one with a primary weight before them is variable, and how many
-- come before them
pub record FrontState : Type 0 where
  pub elements : List Element
  pub after_variable : Bool
  pub passed : ℕ

abbrev pub from_front : Option Element → List Element → List Element
from_front (Some e) es = e ∷ es
from_front None es = []

-- a count with some more added, at most the greatest number of 64 bits
abbrev pub counted : ℕ → ℕ → ℕ
counted count zero = count
counted count (suc more) = min 18446744073709551615 (count + suc more)

-- at the begin of a text
abbrev pub begun : List Element → FrontState
begun es = record { elements = es; after_variable = false; passed = 0 }

-- after the element at the front
abbrev pub after_one : Bool → ℕ → List Element → FrontState
after_one after_variable passed [] = record { elements = []; after_variable = after_variable; passed = passed }
after_one after_variable passed (e ∷ es) = record { elements = es; after_variable = is_after_variable after_variable e; passed = counted passed 1 }

abbrev pub advanced : FrontState → FrontState
advanced f = after_one f.after_variable f.passed f.elements

abbrev pub is_empty : List Element → Bool
is_empty [] = true
is_empty (e ∷ es) = false

abbrev pub is_ended : FrontState → Bool
is_ended f = is_empty f.elements

-- the weights at a level from the front on, zeros among them
abbrev pub weights_left : Weighting → ℕ → FrontState → List ℕ
weights_left weighting level f = map (weight_at level) (weighted_after weighting f.after_variable f.elements)

-- the first weight; 0 where there is none
abbrev pub first_of : List ℕ → ℕ
first_of [] = 0
first_of (w ∷ ws) = w

-- the weight at the front
abbrev pub weight_here : Weighting → ℕ → FrontState → ℕ
weight_here weighting level f = first_of (weights_left weighting level f)

abbrev pub front_weights : Weighting → FrontState → List ℕ
front_weights weighting f = weight_here weighting 1 f ∷ weight_here weighting 2 f ∷ weight_here weighting 3 f ∷ weight_here weighting 4 f ∷ []

-- two fronts have the same weights
abbrev pub Agree : FrontState → FrontState → Type 0
Agree f g = (weighting : Weighting) → front_weights weighting f ≡ front_weights weighting g

-- how many elements there are up to the front, and with the one at it
abbrev pub count_with : ℕ → List Element → ℕ
count_with passed [] = passed
count_with passed (e ∷ es) = counted passed 1

abbrev pub fetched : FrontState → ℕ
fetched f = count_with f.passed f.elements
