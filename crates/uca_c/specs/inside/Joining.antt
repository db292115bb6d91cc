-- The levels of a key, joined.
use Rattle.std.specs.Prelude.{◌≡◌, ℕ, List, [], ◌∷◌, ◌++◌, drop, length, take}
use Rattle.uca_weights.specs.declared.Weighting.{Weighting}
use Rattle.uca_order.specs.Levels.{level_count}
use Rattle.uca_key_writer.specs.declared.key_levels.KeyLevels.{KeyLevels}
use Rattle.uca_key_writer.specs.KeyLevels.{levels_in}

-- the bytes of levels, with two bytes 0 between two of them
abbrev pub joined : List (List ℕ) → List ℕ
joined [] = []
joined (a ∷ []) = a
joined (a ∷ b ∷ more) = a ++ (0 ∷ 0 ∷ joined (b ∷ more))

-- those of the levels that keys of the weighting have
abbrev pub joined_levels : Weighting → KeyLevels → List ℕ
joined_levels weighting l = joined (take (level_count weighting) (levels_in l))

-- these bytes are written, so many of them, and the rest is as before
pub record IsWritten (bytes before : List ℕ) (count : ℕ) (after : List ℕ) : Type 0 where
  pub count_is : count ≡ length bytes
  pub after_is : after ≡ bytes ++ drop count before
