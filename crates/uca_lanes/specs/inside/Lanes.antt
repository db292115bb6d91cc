-- What is told of many bytes at once.
use Rattle.std.specs.Prelude.{◌≡◌, ◌≢◌, ℕ, ◌+◌, ◌<◌, ◌≤◌, List, get_or}

-- of so many bytes, from a position of each on, the first `same` are the same in both, and no more
pub record IsSameRun (left right : List ℕ) (left_at right_at count same : ℕ) : Type 0 where
  pub within : same ≤ count
  pub are : (k : ℕ) → k < same → get_or left (left_at + k) 0 ≡ get_or right (right_at + k) 0
  pub apart : same < count → get_or left (left_at + same) 0 ≢ get_or right (right_at + same) 0
