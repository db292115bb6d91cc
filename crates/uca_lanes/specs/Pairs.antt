-- Pairs of bytes, and the numbers that they spell.
use Rattle.std.specs.Prelude.{◌≡◌, ◌≢◌, ℕ, ◌+◌, ◌*◌, ◌/◌, ◌<◌, ◌≤◌, ◌==◌, List, Bool, false, not, length, get_or, min}
use Rattle.std.specs.Simd.Lanes.{mask_l}

-- the number that two bytes spell from this position on, the high one first
abbrev pub pair_at : List ℕ → ℕ → ℕ
pair_at bytes at = 256 * get_or bytes at 0 + get_or bytes (at + 1) 0

-- of so many pairs from this position on, the first `same` spell this number, and no more
pub record IsPairRun (bytes : List ℕ) (number at count same : ℕ) : Type 0 where
  pub within : same ≤ count
  pub are : (k : ℕ) → k < same → pair_at bytes (at + 2 * k) ≡ number
  pub apart : same < count → pair_at bytes (at + 2 * same) ≢ number

-- a bit for each of so many pairs, the lowest for the first: whether it spells another number than this one
pub record AreMarks (bytes : List ℕ) (number count marks : ℕ) : Type 0 where
  pub lanes : List Bool
  pub mask : marks ≡ mask_l lanes
  pub long : length lanes ≡ count
  pub are : (k : ℕ) → k < count → get_or lanes k false ≡ not (pair_at bytes (2 * k) == number)

-- the bits are those of at least the first 32 pairs, or of all if there are fewer; some may be of zeros after the end
pub record MarksPairs (bytes : List ℕ) (number bits : ℕ) : Type 0 where
  pub count : ℕ
  pub many : min 32 (length bytes / 2) ≤ count
  pub few : count ≤ 64
  pub marks : AreMarks bytes number count bits
