-- Lists whose members occur in order in another.
use Rattle.std.specs.Prelude.{◌≡◌, ◌⊎◌, List, [], ◌∷◌, ⊤}

-- the first list's members all occur in the second, in their order; others may come between them
abbrev pub OccursInOrder : {A : Type 0} → List A → List A → Type 0
OccursInOrder [] ys = ⊤
OccursInOrder (x ∷ xs) [] = ⊥
OccursInOrder (x ∷ xs) (y ∷ ys) = ((x ≡ y) × OccursInOrder xs ys) ⊎ OccursInOrder (x ∷ xs) ys
