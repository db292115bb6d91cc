-- The weights that the base gives the tailored table, as they are found element by element.
use Rattle.std.specs.Prelude.{◌≢◌, ◌↔◌, ◌⊎◌, ℕ, List, Contains}
use Rattle.uca_weights.specs.declared.Element.{Element}
use Rattle.uca_weights.specs.declared.Level.{Level}
use Rattle.uca_weights.specs.Levels.{weight}
use Rattle.uca_weights.specs.Maps.{WeightImages, Sends}
use Rattle.uca_weights.specs.PerLevel.{at_level}
use Rattle.uca_tailorings.specs.Images.{Maps}
use Rattle.uca_tailorings.specs.Tailorings.{IsPairWeight}
use Rattle.uca_audit.specs.inside.WeightSets.{Flags, HasWeight}

-- the image of a weight other than 0
abbrev pub IsImageOf : WeightImages → ℕ → ℕ → Type 0
IsImageOf images w image = (w ≢ 0) × Sends images w image

-- the image of a weight other than 0 that one of the elements has at the level
abbrev pub IsImageOfOne : Maps → Level → List Element → ℕ → Type 0
IsImageOfOne maps level elements w = (e : Element) × Contains elements e × IsImageOf (at_level level maps) (weight level e) w

-- the set has these images, and the weights of implicit weights
abbrev pub HoldsImages : Maps → List Element → Flags → Type 0
HoldsImages maps elements set = (level : Level) (w : ℕ) → HasWeight set level w ↔ (IsImageOfOne maps level elements w ⊎ IsPairWeight level w)
