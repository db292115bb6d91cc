-- Where a range fits between others.
use Rattle.std.specs.Prelude.{◌≡◌, ◌⊎◌, ℕ, ◌<◌, ◌≤◌, true, List, length}
use Rattle.std.specs.List.{insert}
use Rattle.std.specs.List.Sorted.{IsPartitionPoint}
use Rattle.uca_values.specs.declared.CodePointRange.{CodePointRange}
use Rattle.uca_values.specs.Ranges.{is_within}

-- the ranges before the gap end below a, and those from it on begin above b
abbrev pub IsGap : {X : Type 0} → (X → ℕ) → (X → ℕ) → ℕ → ℕ → List X → ℕ → Type 0
IsGap first last a b xs at = IsPartitionPoint (λ r. last r < a) (λ r. b < first r) xs at

-- a code point from `first` to `last` is in a range of one of the lists
abbrev pub HasRangeIn : List CodePointRange → List CodePointRange → ℕ → ℕ → Type 0
HasRangeIn ranges beside first last = (point : ℕ) × (first ≤ point) × (point ≤ last) × ((is_within ranges point ≡ true) ⊎ (is_within beside point ≡ true))

-- the range is put where it fits between those of its kind, and it fits between the others too
pub record IsPut (old beside : List CodePointRange) (range : CodePointRange) (new : List CodePointRange) : Type 0 where
  pub rising : range.first ≤ range.last
  pub room : length old < 4096
  pub at : ℕ
  pub within : at ≤ length old
  pub gap : IsGap (λ r. r.first) (λ r. r.last) range.first range.last old at
  pub is : new ≡ insert old at range
  pub place : ℕ
  pub within_beside : place ≤ length beside
  pub gap_beside : IsGap (λ r. r.first) (λ r. r.last) range.first range.last beside place
