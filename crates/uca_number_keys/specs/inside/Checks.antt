-- What is looked at in a table whose numbers are to be ordered by value.
use Rattle.std.specs.Prelude.{◌≡◌, ◌≢◌, ◌⊎◌, ℕ, ◌-◌, ◌<◌, ◌≤◌, List, [], ◌∷◌, length, drop, get_or, Some, None}
use Rattle.uca_values.specs.Content.{Entry, Properties}
use Rattle.uca_elements.specs.Rows.{Rows, rows_of}
use Rattle.uca_numbers.specs.Numbers.{IsDigit}
use Rattle.uca_numbers.specs.Laws.{RisesOnDigits}
use Rattle.uca_number_keys.specs.Tables.{digit_weight}

abbrev pub no_entry : Entry
no_entry = record { key = []; elements = [] }

-- the first row of a digit among the rows from a position on, counted from 1 among all
pub record IsRowFrom (rows : List Entry) (at d row : ℕ) : Type 0 where
  pub some : 0 < row
  pub within : row ≤ length rows
  pub key : (get_or rows (row - 1) no_entry).key ≡ d ∷ []
  pub found : rows_of (drop at rows) (d ∷ []) ≡ Some (get_or rows (row - 1) no_entry).elements

-- that row, or 0 if there is none
abbrev pub IsFoundFrom : List Entry → ℕ → ℕ → ℕ → Type 0
IsFoundFrom rows at d row = ((row ≡ 0) × (rows_of (drop at rows) (d ∷ []) ≡ None)) ⊎ IsRowFrom rows at d row

abbrev pub IsFound : List Entry → ℕ → ℕ → Type 0
IsFound rows d row = IsFoundFrom rows 0 d row

-- no digit is wrong
pub record AreOrdered (properties : Properties) (rows : Rows) : Type 0 where
  pub starters : (d : ℕ) → IsDigit d → properties.class d ≡ 0
  pub weighted : (d : ℕ) → IsDigit d → digit_weight rows d ≢ 0
  pub rises : RisesOnDigits (digit_weight rows)
