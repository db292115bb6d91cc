-- The rows of a table as a finite map from keys to elements.
use Rattle.std.specs.Prelude.{ℕ, List, [], ◌∷◌, Bool, true, false, ◌&&◌, is_some, Option, Some, None, IsTrue, nat_eq, if◌then◌else◌}
use Rattle.uca_weights.specs.declared.Element.{Element}
use Rattle.uca_values.specs.Content.{Entry}

-- the elements of each key
abbrev pub Rows : Type 0
Rows = List ℕ → Option (List Element)

-- which lists of code points are keys
abbrev pub Keys : Type 0
Keys = List ℕ → Bool

abbrev pub is_key : Rows → Keys
is_key rows key = is_some (rows key)

abbrev pub IsKey : Rows → List ℕ → Type 0
IsKey rows key = IsTrue (is_key rows key)

abbrev pub same_key : List ℕ → List ℕ → Bool
same_key [] [] = true
same_key [] (b ∷ bs) = false
same_key (a ∷ x) [] = false
same_key (a ∷ x) (b ∷ y) = nat_eq a b && same_key x y

-- the elements of the first row with the key
abbrev pub rows_of : List Entry → Rows
rows_of [] key = None
rows_of (r ∷ table) key = if same_key r.key key then Some r.elements else rows_of table key
