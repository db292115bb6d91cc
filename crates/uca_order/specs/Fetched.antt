-- How many elements of two texts are fetched to compare them at level 1, as a function of their level-1 weights.
use Rattle.std.specs.Prelude.{ℕ, zero, suc, List, [], ◌∷◌, map, nat_eq, if◌then◌else◌}
use Rattle.uca_weights.specs.declared.Element.{Element}
use Rattle.uca_weights.specs.declared.Weighting.{Weighting}
use Rattle.uca_order.specs.Levels.{weight_at, weighted, level_list}

-- how many numbers two lists begin with alike
abbrev pub shared_length : List ℕ → List ℕ → ℕ
shared_length [] ws = 0
shared_length (v ∷ vs) [] = 0
shared_length (v ∷ vs) (w ∷ ws) = if nat_eq v w then suc (shared_length vs ws) else 0

-- how many weights there are up to the one that has this position among those that are not 0; all of them if there is
-- none
abbrev pub length_to : ℕ → List ℕ → ℕ
length_to place [] = 0
length_to zero (w ∷ ws) = if nat_eq w 0 then suc (length_to zero ws) else 1
length_to (suc place) (w ∷ ws) = suc (length_to (if nat_eq w 0 then suc place else place) ws)

-- the level-1 weights of the elements, zeros among them
abbrev pub primaries : Weighting → List Element → List ℕ
primaries weighting es = map (weight_at 1) (weighted weighting es)

-- the first position at which the lists of level 1 differ; where they do not, the one after their last weight
abbrev pub first_difference : Weighting → List Element → List Element → ℕ
first_difference weighting left right = shared_length (level_list 1 (weighted weighting left)) (level_list 1 (weighted weighting right))

-- How many elements of each text are fetched: up to the one that has the weight at that position.
abbrev pub fetched_left : Weighting → List Element → List Element → ℕ
fetched_left weighting left right = length_to (first_difference weighting left right) (primaries weighting left)

abbrev pub fetched_right : Weighting → List Element → List Element → ℕ
fetched_right weighting left right = length_to (first_difference weighting left right) (primaries weighting right)
