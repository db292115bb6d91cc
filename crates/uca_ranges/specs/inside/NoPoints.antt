-- How a program writes a stored key with plain levels.
use Rattle.std.specs.Prelude.{ℕ, List, [], ◌∷◌}
use Rattle.uca_weights.specs.declared.Depth.{Depth}
use Rattle.uca_weights.specs.declared.Depth.TheVariants.{Weights, Identical}

-- an identical level without code points, or none
abbrev pub no_points : Depth → List ℕ
no_points Weights = []
no_points Identical = 0 ∷ 0 ∷ []
