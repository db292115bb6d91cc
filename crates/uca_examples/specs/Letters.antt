-- The rows of consecutive letters. The lookup of the examples alone cites this file.
use Rattle.std.specs.Prelude.{ℕ, ◌-◌, List, [], ◌∷◌, Option, Some, None, nat_le, slice_get, if◌then◌else◌}
use Rattle.uca_weights.specs.declared.Element.{Element}
use Rattle.uca_elements.specs.Rows.{Rows}

-- the elements of a code point: the first row is that of a, which is 97
abbrev pub letter_row : List (List Element) → ℕ → Option (List Element)
letter_row rows c = if nat_le 97 c then slice_get rows (c - 97) else None

-- each key is one letter
abbrev pub letter_rows : List (List Element) → Rows
letter_rows rows [] = None
letter_rows rows (c ∷ []) = letter_row rows c
letter_rows rows (c ∷ d ∷ more) = None

-- the letters up to a node: at most one
abbrev pub letters_to : Option ℕ → List ℕ
letters_to None = []
letters_to (Some c) = c ∷ []
