-- The keys that have rows, and the row of each.
use Rattle.std.specs.Prelude.{◌≡◌, ℕ, ◌<◌, ◌≤◌, ⊤, List, [], ◌∷◌, ◌++◌, length, false, Some}
use Rattle.uca_relations.specs.declared.Relation.{Relation}
use Rattle.uca_elements.specs.Positions.{Positions, place_at}
use Rattle.uca_plans.specs.Keys.{is_among, with_targets}

-- the key has this row
pub record IsRowOf (keys : List (List ℕ)) (key : List ℕ) (at : ℕ) : Type 0 where
  pub within : at < length keys
  pub stands : place_at 0 keys key ≡ Some at

-- all targets are among the keys, or a table has no room for the next one
abbrev pub IsFull : List (List ℕ) → List Relation → Type 0
IsFull keys [] = ⊤
IsFull keys (r ∷ rest) = (200000 ≤ length keys) × (is_among keys r.target.points ≡ false)

-- base keys and then targets, as far as a table has room for them
pub record AreListed (base : List (List ℕ)) (relations : List Relation) (keys : List (List ℕ)) : Type 0 where
  pub listed : List Relation
  pub rest : List Relation
  pub whole : relations ≡ listed ++ rest
  pub are : keys ≡ with_targets listed base
  pub full : IsFull keys rest
  pub few : length keys ≤ 200000

-- the positions of such keys
pub record ArePositions (base : List (List ℕ)) (relations : List Relation) (positions : Positions) : Type 0 where
  pub keys : List (List ℕ)
  pub all : AreListed base relations keys
  pub each : (key : List ℕ) → positions key ≡ place_at 0 keys key
