-- The levels of a key as bytes: two bytes for each weight, the high byte first.
use Rattle.std.specs.Prelude.{◌≡◌, ℕ, ◌+◌, ◌*◌, ◌<◌, List, [], ◌∷◌, length}
use Rattle.std.specs.List.{AllByRecursion}
use Rattle.uca_weights.specs.declared.Weighting.{Weighting}
use Rattle.uca_weights.specs.declared.Weighting.TheVariants.{NonIgnorable, Shifted}
use Rattle.uca_compact.specs.declared.level_bytes.LevelBytes.{LevelBytes}

-- the weights of these bytes; a single byte at the end is none
abbrev pub weights_in : List ℕ → List ℕ
weights_in [] = []
weights_in (a ∷ []) = []
weights_in (a ∷ b ∷ bytes) = (256 * a + b) ∷ weights_in bytes

-- The bytes are those of weights: none is 0, and no single byte is at the end.
pub record AreWeightBytes (bytes : List ℕ) : Type 0 where
  pub whole : 2 * length (weights_in bytes) ≡ length bytes
  pub some : AllByRecursion (λ w. 0 < w) (weights_in bytes)

-- the bytes of each level that keys of a weighting have
abbrev pub level_bytes_in : Weighting → LevelBytes → List (List ℕ)
level_bytes_in NonIgnorable l = l.letters.now ∷ l.accents.now ∷ l.cases.now ∷ []
level_bytes_in Shifted l = l.letters.now ∷ l.accents.now ∷ l.cases.now ∷ l.variables.now ∷ []
