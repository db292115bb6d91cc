-- What sets of weights have.
use Rattle.std.specs.Prelude.{◌≡◌, ◌↔◌, ◌⊎◌, ℕ, List, Bool, true, false, slice_index_or}
use Rattle.uca_weights.specs.declared.Level.{Level}
use Rattle.uca_weights.specs.PerLevel.{PerLevel, at_level}
use Rattle.uca_tailorings.specs.Tailorings.{IsBetween}

-- a set of weights for each level: whether each weight is in it
abbrev pub Flags : Type 0
Flags = PerLevel (List Bool)

-- the set has the weight at the level
abbrev pub HasWeight : Flags → Level → ℕ → Type 0
HasWeight set level w = slice_index_or (at_level level set) w false ≡ true

-- the set has a weight of the level strictly between the two
abbrev pub HasBetween : Flags → Level → ℕ → ℕ → Type 0
HasBetween set level old new = (w : ℕ) × HasWeight set level w × IsBetween old new w

-- the second set has the weight too
abbrev pub AddsWeight : Flags → Flags → Level → ℕ → Type 0
AddsWeight old new level weight = (l : Level) (w : ℕ) → HasWeight new l w ↔ (((l ≡ level) × (w ≡ weight)) ⊎ HasWeight old l w)
