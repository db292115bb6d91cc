-- The positions of keys in a list of them.
use Rattle.std.specs.Prelude.{◌≢◌, ◌↔◌, length, ℕ, ◌+◌, ⊤, List, [], ◌∷◌, Option, Some, None, is_some, Contains, if◌then◌else◌}
use Rattle.uca_elements.specs.Rows.{Keys, same_key}

-- the position of each key
abbrev pub Positions : Type 0
Positions = List ℕ → Option ℕ

-- which lists of code points are keys
abbrev pub is_placed : Positions → Keys
is_placed positions key = is_some (positions key)

-- the position of a key among others; the first of them has this position
abbrev pub place_at : ℕ → List (List ℕ) → Positions
place_at place [] key = None
place_at place (k ∷ keys) key = if same_key k key then Some place else place_at (place + 1) keys key

-- no key comes twice
abbrev pub AreDistinctKeys : List (List ℕ) → Type 0
AreDistinctKeys [] = ⊤
AreDistinctKeys (k ∷ keys) = (¬ (Contains keys k)) × AreDistinctKeys keys

-- a key and its position
pub record Placed : Type 0 where
  pub key : List ℕ
  pub position : ℕ

-- the keys in their order, each with its position; the first position is this one
abbrev pub placed_from : ℕ → List (List ℕ) → List Placed
placed_from place [] = []
placed_from place (key ∷ keys) = record { key = key; position = place } ∷ placed_from (place + 1) keys

-- the keys that are not one code point, each with its position
abbrev pub AreLongKeys : List (List ℕ) → List Placed → Type 0
AreLongKeys keys list = (placed : Placed) → Contains list placed ↔ (Contains (placed_from 0 keys) placed × (length placed.key ≢ 1))
