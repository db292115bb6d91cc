-- What one more line adds.
use Rattle.std.specs.Prelude.{◌≡◌, ℕ, List, [], ◌∷◌, ◌++◌}
use Rattle.uca_lines.specs.Fields.{text_of}
use Rattle.uca_table.specs.TableSoFar.{TableSoFar, IsTableSoFar}
use Rattle.uca_table.specs.TableLines.{Item, IsItem, said, in_order}

-- with one more line, whose text says the item, the new is said in order
pub record TakesText (old : TableSoFar) (text : List ℕ) (new : TableSoFar) : Type 0 where
  pub item : Item
  pub form : IsItem text item
  pub order : in_order new ≡ in_order old ++ said (item ∷ [])
  pub begun : IsTableSoFar new

-- with one more line, which says an item, the new is said in order
abbrev pub Takes : TableSoFar → List ℕ → TableSoFar → Type 0
Takes old line new = TakesText old (text_of line) new
