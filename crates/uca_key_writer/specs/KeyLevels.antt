-- The levels of a key before they are joined: the bytes of each.
use Rattle.std.specs.Prelude.{◌≡◌, ℕ, List, [], ◌∷◌, map, take}
use Rattle.uca_weights.specs.declared.Element.{Element}
use Rattle.uca_weights.specs.declared.Weighting.{Weighting}
use Rattle.uca_order.specs.Levels.{level_bytes, level_count, level_lists}
use Rattle.uca_key_writer.specs.declared.key_levels.KeyLevels.{KeyLevels}

-- the bytes of the four levels
abbrev pub levels_in : KeyLevels → List (List ℕ)
levels_in l = l.primary.now ∷ l.secondary.now ∷ l.tertiary.now ∷ l.quaternary.now ∷ []

-- The levels of the elements' key. The weighting says how many a key has, and the levels after these may be any.
abbrev pub AreLevelsOf : Weighting → List Element → (levels : List (List ℕ)) → Type 0
AreLevelsOf weighting es levels = take (level_count weighting) levels ≡ map level_bytes (level_lists weighting es)
