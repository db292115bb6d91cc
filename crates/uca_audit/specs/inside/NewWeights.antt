-- What is found of new weights, by sets of weights.
use Rattle.std.specs.Prelude.{◌↔◌, ◌⊎◌, ⊤, ℕ, ◌≤◌, ◌&&◌, ◌==◌, Bool, false, List, Option, Some, None, MatchOption, count_by}
use Rattle.uca_weights.specs.declared.Level.{Level}
use Rattle.uca_weights.specs.Levels.{level_number}
use Rattle.uca_relations.specs.declared.Relation.{Relation}
use Rattle.uca_tailorings.specs.Placing.{IsLow}
use Rattle.uca_tailorings.specs.Tailorings.{Tailoring, IsKnownWeight, IsNewWeight}
use Rattle.uca_audit.specs.declared.conditions.placements.Placement.{Placement}
use Rattle.uca_audit.specs.inside.WeightSets.{Flags, HasWeight, HasBetween}

-- ---- Sets of weights

-- the set has the weights that the base gave the tailored table
abbrev pub HoldsKnown : Tailoring → Flags → Type 0
HoldsKnown tailoring set = (level : Level) (w : ℕ) → HasWeight set level w ↔ IsKnownWeight tailoring level w

-- the set has those, and the new weights of some relations
abbrev pub HoldsKnownAndNew : Tailoring → List Relation → Flags → Type 0
HoldsKnownAndNew tailoring relations set = (level : Level) (w : ℕ) → HasWeight set level w ↔ (IsKnownWeight tailoring level w ⊎ IsNewWeight tailoring level w relations)

abbrev pub is_level : Level → Option Level → Bool
is_level level None = false
is_level level (Some other) = level_number level == level_number other

-- the placement puts this new weight at the level
abbrev pub puts : Level → ℕ → Placement → Bool
puts level w p = is_level level p.level && p.new == w

-- how many placements do
abbrev pub times_new : Level → ℕ → List Placement → ℕ
times_new level w placements = count_by (puts level w) placements

-- the set has the weights that are new at least this many times
abbrev pub HoldsNew : ℕ → List Placement → Flags → Type 0
HoldsNew times placements set = (level : Level) (w : ℕ) → HasWeight set level w ↔ (times ≤ times_new level w placements)

-- ---- Placements against sets of weights

-- the new weight is not among the known ones, nor among those that two relations have; at level 1 it is low
pub record IsFreshAt (known shared : Flags) (level : Level) (new : ℕ) : Type 0 where
  pub unknown : ¬ (HasWeight known level new)
  pub own : ¬ (HasWeight shared level new)
  pub low : IsLow level new

-- the new weight of a placement is as `IsFreshAt` says, if there is one at a level
abbrev pub IsFreshPlacement : Flags → Flags → Placement → Type 0
IsFreshPlacement known shared p = MatchOption p.level ⊤ (λ level. IsFreshAt known shared level p.new)

-- no known weight lies strictly between the placement's weights
abbrev pub IsNearestPlacement : Flags → Placement → Type 0
IsNearestPlacement known p = MatchOption p.level ⊤ (λ level. ¬ (HasBetween known level p.old p.new))
