-- The set of the keys of a table in the making, by which duplicate keys are found.
use Rattle.std.specs.Prelude.{◌≡◌, ℕ, ◌/◌, ◌%◌, ◌==◌, ◌↔◌, Bool, true, List, [], ◌∷◌, Some, Contains, slice_index}
use Rattle.std.specs.Int.{bit_at}
use Rattle.uca_values.specs.Content.{Entry, is_version_name, keys_of}
use Rattle.uca_table.specs.TableSoFar.{TableSoFar, IsTableSoFar}

-- whether a code point has its bit; each word has 64 bits
abbrev pub has_bit : List ℕ → ℕ → Bool
has_bit words point = bit_at (slice_index words (point / 64)) (point % 64) == 1

-- whether a key of one code point has its bit, and for another key whether a set has it
abbrev pub is_kept : List ℕ → Bool → List ℕ → Bool
is_kept words is_in_set (point ∷ []) = has_bit words point
is_kept words is_in_set _ = is_in_set

-- Whether a key in memory has its bit or is in a set. `has` says which keys the set has, and `points` which list a key has.
abbrev pub kept : {K : Type 0} → (K → List ℕ) → List ℕ → (K → Bool) → K → Bool
kept points words has key = is_kept words (has key) (points key)

-- What is kept, as `has` says, are the keys of these rows.
abbrev pub HoldsKeysOf : {K : Type 0} → (K → List ℕ) → (K → Bool) → List Entry → Type 0
HoldsKeysOf {K} points has rows = (key : K) → (has key ≡ true) ↔ Contains (keys_of rows) (points key)

pub record Keeps {K : Type 0} (points : K → List ℕ) (has : K → Bool) (b : TableSoFar) : Type 0 where
  pub keys : HoldsKeysOf points has b.rows
  pub named : (name : List ℕ) → b.version ≡ Some name → is_version_name name ≡ true
  pub begun : IsTableSoFar b
