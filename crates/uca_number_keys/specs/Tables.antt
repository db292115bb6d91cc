-- Tables under which numbers are ordered by value: each digit has a weight of its own, and no part in any other key.
use Rattle.std.specs.Prelude.{◌≡◌, ◌≢◌, ◌⊎◌, ℕ, ◌+◌, ◌-◌, ◌<◌, ◌≤◌, List, [], ◌∷◌, ◌++◌, length, Option, Some, None, IsTrue, if◌then◌else◌}
use Rattle.uca_weights.specs.declared.Element.{Element}
use Rattle.uca_weights.specs.declared.Numbers.{Numbers}
use Rattle.uca_weights.specs.declared.Numbers.TheVariants.{ByValue}
use Rattle.uca_values.specs.Content.{Entry, TableContent, Properties}
use Rattle.uca_elements.specs.Rows.{Rows, IsKey, rows_of}
use Rattle.uca_elements.specs.Collations.{Collation, collation_under}
use Rattle.uca_numbers.specs.Numbers.{IsDigit}
use Rattle.uca_numbers.specs.Texts.{has_digit}
use Rattle.uca_numbers.specs.Laws.{RisesOnDigits}

-- the primary weight of a row of one element that is not variable; 0 for any other row
abbrev pub lone_primary : List Element → ℕ
lone_primary [] = 0
lone_primary (e ∷ []) = if e.mark then 0 else e.primary
lone_primary (e ∷ f ∷ more) = 0

abbrev pub lone_primary_at : Option (List Element) → ℕ
lone_primary_at None = 0
lone_primary_at (Some row) = lone_primary row

-- the primary weight of a digit
abbrev pub digit_weight : Rows → ℕ → ℕ
digit_weight rows d = lone_primary_at (rows (d ∷ []))

-- Digits are starters, a key that has a digit is this digit alone, and the ten rows have one element each. Their primary
-- weights rise, and are not zero.
pub record OrdersNumbers (c : Collation) : Type 0 where
  pub starters : (d : ℕ) → IsDigit d → c.properties.class d ≡ 0
  pub alone : (key : List ℕ) → IsKey c.rows key → IsTrue (has_digit key) → length key ≡ 1
  pub weighted : (d : ℕ) → IsDigit d → digit_weight c.rows d ≢ 0
  pub rises : RisesOnDigits (digit_weight c.rows)

-- ---- The row to blame

-- the key has a digit, and is not this digit alone
abbrev pub SharesDigit : List ℕ → Type 0
SharesDigit key = IsTrue (has_digit key) × (length key ≢ 1)

-- the digit has a combining class, or no weight, or none above that of the digit before
abbrev pub IsWrongDigit : Properties → Rows → ℕ → Type 0
IsWrongDigit properties rows d =
    (properties.class d ≢ 0) ⊎ ((digit_weight rows d ≡ 0) ⊎ ((0x30 < d) × (digit_weight rows d ≤ digit_weight rows (d - 1))))

-- the key shares a digit, or is such a digit
abbrev pub IsWrongKey : Properties → Rows → List ℕ → Type 0
IsWrongKey properties rows key = SharesDigit key ⊎ ((d : ℕ) × IsDigit d × (key ≡ d ∷ []) × IsWrongDigit properties rows d)

-- the row, counted from 1 in file order, has such a key
pub record HasWrongKey (properties : Properties) (rows : List Entry) (row : ℕ) : Type 0 where
  pub before : List Entry
  pub entry : Entry
  pub after : List Entry
  pub split : rows ≡ before ++ entry ∷ after
  pub place : row ≡ length before + 1
  pub wrong : IsWrongKey properties (rows_of rows) entry.key

-- The row to blame if numbers are not in the order of their values. It is 0 if a digit has no row.
abbrev pub IsToBlame : Properties → List Entry → ℕ → Type 0
IsToBlame properties rows row =
    ((row ≡ 0) × ((d : ℕ) × IsDigit d × (rows_of rows (d ∷ []) ≡ None))) ⊎ HasWrongKey properties rows row

-- ---- What is asked for

-- If numbers are to be ordered by value, the table orders them.
abbrev pub TakesTable : Numbers → TableContent → Properties → Type 0
TakesTable numbers table properties = numbers ≡ ByValue → OrdersNumbers (collation_under table properties)

-- They are to be so ordered, and the table does not order them: this row is to blame.
pub record RefusesTable (numbers : Numbers) (table : TableContent) (properties : Properties) (row : ℕ) : Type 0 where
  pub asked : numbers ≡ ByValue
  pub unordered : OrdersNumbers (collation_under table properties) → ⊥
  pub blame : IsToBlame properties table.rows row
