-- Rows that become their images under maps of weights, except for those of changed texts. `IsChanged` says which texts these are.
use Rattle.std.specs.Prelude.{◌≡◌, ◌⊎◌, ℕ, List, Some}
use Rattle.uca_weights.specs.declared.Element.{Element}
use Rattle.uca_values.specs.Content.{Entry}
use Rattle.uca_elements.specs.Rows.{Rows, IsKey}
use Rattle.uca_tailorings.specs.Images.{Maps, AreImages}

-- where the key is not changed, its new row, if there is one, is the image of the old row
abbrev pub IsKeptRow : Maps → (List ℕ → Type 0) → Rows → Entry → Type 0
IsKeptRow maps IsChanged new_rows row =
    ¬ (IsChanged row.key) → (new : List Element) → new_rows row.key ≡ Some new → AreImages maps row.elements new

-- the key of a new row is an old key or is changed
abbrev pub IsKnownRow : (List ℕ → Type 0) → Rows → Entry → Type 0
IsKnownRow IsChanged old_rows row = IsKey old_rows row.key ⊎ IsChanged row.key
