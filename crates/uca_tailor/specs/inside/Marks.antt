-- Flags for the weights of a level's list.
use Rattle.std.specs.Prelude.{◌≡◌, ◌↔◌, ◌⊎◌, ℕ, ◌+◌, List, [], ◌∷◌, Bool, true, false, length, slice_index_or, if◌then◌else◌}
use Rattle.uca_weights.specs.declared.Element.{Element}
use Rattle.uca_weights.specs.declared.Level.{Level}
use Rattle.uca_plans.specs.Lists.{fixed_weight}
use Rattle.uca_plans.specs.ListLaws.{IsWeightOf}

-- the slots of the flags that are set, counted from a number
abbrev pub slots_from : ℕ → List Bool → List ℕ
slots_from slot [] = []
slots_from slot (mark ∷ marks) = if mark then slot ∷ slots_from (slot + 1) marks else slots_from (slot + 1) marks

-- the weights that are marked are those of the elements that are numbered, and the one that stays
pub record AreMarked (level : Level) (elements : List Element) (marks : List Bool) : Type 0 where
  pub count : length marks ≡ 0x1_0000
  pub each : (w : ℕ) → (slice_index_or marks w false ≡ true) ↔ ((w ≡ fixed_weight level) ⊎ IsWeightOf level elements w)
