-- Stored keys: their bytes alone give the order, and the level at which they differ.
use Rattle.std.specs.Prelude.{ℕ, ◌+◌, List, [], ◌∷◌, min, count_by, if◌then◌else◌}
use Rattle.std.specs.Str.{bytes_eq}

-- the groups of two bytes; a last single byte is a group
abbrev pub groups : List ℕ → List (List ℕ)
groups [] = []
groups (a ∷ []) = (a ∷ []) ∷ []
groups (a ∷ b ∷ bytes) = (a ∷ b ∷ []) ∷ groups bytes

-- the groups before the first that differs or is missing on one side
abbrev pub shared_groups : List (List ℕ) → List (List ℕ) → List (List ℕ)
shared_groups [] right = []
shared_groups (a ∷ left) [] = []
shared_groups (a ∷ left) (b ∷ right) = if bytes_eq a b then a ∷ shared_groups left right else []

-- how many of them are 00 00, the separator between two levels
abbrev pub shared_separators : List ℕ → List ℕ → ℕ
shared_separators left right = count_by (bytes_eq (0 ∷ 0 ∷ [])) (shared_groups (groups left) (groups right))

-- the level at which two keys differ, at most `levels`; 0 where they are equal
abbrev pub stored_level : ℕ → List ℕ → List ℕ → ℕ
stored_level levels left right = if bytes_eq left right then 0 else min levels (1 + shared_separators left right)
