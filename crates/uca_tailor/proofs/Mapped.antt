-- A loop that maps the members of a list in turn and puts them after others: one more member, and all members.
use Rattle.std.proofs.Common.{◌≡◌, ℕ, ◌+◌, ◌<◌, ◌≤◌, List, [], ◌∷◌, ◌++◌, length, take, map, get_or, sym, ap, ap₂, ◌∙◌, append_assoc}
use Rattle.std.proofs.lemmas.List.{map_more, take_all}

-- one more member
pub mapped_more : {X Y : Type 0} (f : X → Y) (xs : List X) (i : ℕ) (d : X) (before old new : List Y) (y : Y) → i < length xs → y ≡ f (get_or xs i d) →
    old ≡ before ++ map f (take i xs) → new ≡ old ++ y ∷ [] → new ≡ before ++ map f (take (i + 1) xs)
mapped_more f xs i d before old new y within its so_far more =
    more ∙ ap₂ (λ l m. l ++ m ∷ []) so_far its ∙ append_assoc before (map f (take i xs)) (f (get_or xs i d) ∷ [])
    ∙ ap (λ l. before ++ l) (sym (map_more f xs i d within))

-- all members
pub mapped_all : {X Y : Type 0} (f : X → Y) (xs : List X) (i : ℕ) (before old : List Y) → length xs ≤ i → old ≡ before ++ map f (take i xs) → old ≡ before ++ map f xs
mapped_all f xs i before old past so_far = so_far ∙ ap (λ l. before ++ map f l) (take_all i xs past)
