-- How long a key may be.
use Rattle.std.specs.Prelude.{◌≡◌, ℕ, ◌≤◌, List, Some, length}
use Rattle.uca_weights.specs.declared.Element.{Element}
use Rattle.uca_elements.specs.Rows.{Rows}

-- each row has at most 32 elements, as the rows of every table do
abbrev pub HasShortRows : Rows → Type 0
HasShortRows rows = (key : List ℕ) (row : List Element) → rows key ≡ Some row → length row ≤ 32
