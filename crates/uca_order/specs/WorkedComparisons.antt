-- How some stored keys compare, worked out over the definitions.
use Rattle.std.specs.Prelude.{◌≡◌, ℕ, List, [], ◌∷◌}
use Rattle.std.specs.declared.cmp.Ordering.{Ordering}
use Rattle.std.specs.declared.cmp.Ordering.TheVariants.{Less, Equal, Greater}
use Rattle.uca_order.specs.Levels.{lexicographic, level_bytes}
use Rattle.uca_order.specs.StoredKeys.{stored_level}

-- the order and the level of two slices, which need be no keys
abbrev pub Compares : ℕ → List ℕ → List ℕ → Ordering → ℕ → Type 0
Compares levels left right order level = (lexicographic left right ≡ order) × (stored_level levels left right ≡ level)

-- the order and the level of the bytes of these groups
abbrev pub CompareGroups : ℕ → List ℕ → List ℕ → Ordering → ℕ → Type 0
CompareGroups levels left right order level = Compares levels (level_bytes left) (level_bytes right) order level

pub record WorkedComparisons : Type 0 where
  pub nothing : Compares 3 [] [] Equal 0
  pub equal : CompareGroups 3 (0x1C47 ∷ 0 ∷ 0x20 ∷ 0 ∷ 2 ∷ []) (0x1C47 ∷ 0 ∷ 0x20 ∷ 0 ∷ 2 ∷ []) Equal 0
  -- letters, accents and case
  pub letters : CompareGroups 3 (0x1C47 ∷ 0 ∷ 0x20 ∷ 0 ∷ 2 ∷ []) (0x1C60 ∷ 0 ∷ 0x20 ∷ 0 ∷ 2 ∷ []) Less 1
  pub accent : CompareGroups 3 (0x1C47 ∷ 0 ∷ 0x20 ∷ 0x24 ∷ 0 ∷ 2 ∷ 2 ∷ []) (0x1C47 ∷ 0 ∷ 0x20 ∷ 0 ∷ 2 ∷ []) Greater 2
  pub capital : CompareGroups 3 (0x1C47 ∷ 0 ∷ 0x20 ∷ 0 ∷ 2 ∷ []) (0x1C47 ∷ 0 ∷ 0x20 ∷ 0 ∷ 8 ∷ []) Less 3
  -- a space, at the fourth level
  pub space : CompareGroups 4 (0x1C47 ∷ 0x1C60 ∷ 0 ∷ 0x20 ∷ 0x20 ∷ 0 ∷ 2 ∷ 2 ∷ 0 ∷ 0xFFFF ∷ 0x209 ∷ 0xFFFF ∷ [])
      (0x1C47 ∷ 0x1C60 ∷ 0 ∷ 0x20 ∷ 0x20 ∷ 0 ∷ 2 ∷ 2 ∷ 0 ∷ 0xFFFF ∷ 0xFFFF ∷ []) Less 4
  -- a beginning, with as many levels as may be compared
  pub beginning : CompareGroups 3 (0 ∷ 0 ∷ []) (0 ∷ 0 ∷ 0 ∷ []) Less 3
  pub two_levels : CompareGroups 2 (0 ∷ 0 ∷ []) (0 ∷ 0 ∷ 0 ∷ []) Less 2
  pub no_level : CompareGroups 0 (0 ∷ 0 ∷ []) (0 ∷ 0 ∷ 0 ∷ []) Less 0
  -- a last single byte is a group
  pub single : Compares 3 (0x1C ∷ []) (0x1C ∷ 0x47 ∷ []) Less 1
  pub single_zero : Compares 3 (0 ∷ 0 ∷ 0 ∷ []) (0 ∷ 0 ∷ 0 ∷ 0 ∷ []) Less 2
  pub single_equal : Compares 3 (0 ∷ 0 ∷ 1 ∷ []) (0 ∷ 0 ∷ 1 ∷ []) Equal 0
