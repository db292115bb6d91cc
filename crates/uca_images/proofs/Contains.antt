-- What a list contains that has one more at its front.
use Rattle.std.proofs.Common.{List, ◌∷◌, Contains, ◌≡◌, ◌↔◌, ◌⊎◌, ⊎_elim}
use Rattle.uca_elements.proofs.RowsByKey.{Contains-cases, Contains-first, Contains-later}

pub contained_first : {X : Type 0} (x : X) (xs : List X) (y : X) → Contains (x ∷ xs) y ↔ ((x ≡ y) ⊎ Contains xs y)
contained_first x xs y = (Contains-cases x y xs, λ h. ⊎_elim (Contains-first x y xs) (Contains-later x y xs) h)
