-- What callers see of a buffer for keys.
use Rattle.std.specs.Prelude.{ℕ, List}
use Rattle.uca_weights.specs.declared.Depth.{Depth}
use Rattle.uca_weights.specs.declared.Weighting.{Weighting}

-- what its keys go by, and the bytes that were written last: those of a key, and those of the four levels
pub record KeyState : Type 0 where
  pub weighting : Weighting
  pub depth : Depth
  pub key : List ℕ
  pub levels : List (List ℕ)
