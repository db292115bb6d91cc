-- Facts on lists that more than one crate needs.
use Rattle.std.proofs.Common.{◌≡◌, ◌↔◌, ◌⊎◌, inl, inr, ⊎_elim, ℕ, ◌+◌, ◌<◌, List, [], ◌∷◌, ◌++◌, length, take, drop, get_or, Contains, refl, ap, sym, ◌∙◌, arith, length-append}
use Rattle.std.specs.List.{AllByRecursion}
use Rattle.std.proofs.lemmas.List.{take_more, drop_more, take-append-drop}
use Rattle.std.proofs.lemmas.List.Elements.{All-from_recursion, All-contains}

-- ---- What is true of each member

-- what is true of each member of two lists is true of each of both together
pub each_append : {X : Type 0} (P : X → Type 0) (xs ys : List X) → AllByRecursion P xs → AllByRecursion P ys → AllByRecursion P (xs ++ ys)
each_append P [] ys first second = second
each_append P (x ∷ xs) ys first second = (first.0, each_append P xs ys first.1 second)

-- and the other way round
pub each_parts : {X : Type 0} (P : X → Type 0) (xs ys : List X) → AllByRecursion P (xs ++ ys) → AllByRecursion P xs × AllByRecursion P ys
each_parts P [] ys all = (tt, all)
each_parts P (x ∷ xs) ys all = let rest = each_parts P xs ys all.1 in ((all.0, rest.0), rest.1)

-- what is true of each member of a list with one more
pub each_push : {X : Type 0} (P : X → Type 0) (xs : List X) (x : X) → AllByRecursion P (xs ++ x ∷ []) ↔ (AllByRecursion P xs × P x)
each_push P xs x = (
  λ all. let parts = each_parts P xs (x ∷ []) all in (parts.0, parts.1.0),
  λ parts. each_append P xs (x ∷ []) parts.0 (parts.1, tt),
)

-- what is true of each member of a list with one more between others
pub each_around : {X : Type 0} (P : X → Type 0) (front : List X) (x : X) (back : List X) → AllByRecursion P (front ++ x ∷ back)
    ↔ (P x × AllByRecursion P (front ++ back))
each_around P front x back = (
  λ all. let parts = each_parts P front (x ∷ back) all in (parts.1.0, each_append P front back parts.0 parts.1.1),
  λ here. let parts = each_parts P front back here.1 in each_append P front (x ∷ back) parts.0 (here.0, parts.1),
)

-- what is true of each member is true of one between others
pub inside : {X : Type 0} (P : X → Type 0) (before : List X) (x : X) (after : List X) → AllByRecursion P (before ++ x ∷ after) → P x
inside P before x after all = (each_parts P before (x ∷ after) all).1.0

-- what is true of each member is true of what the list contains
pub each_contained : {X : Type 0} (P : X → Type 0) (xs : List X) (x : X) → AllByRecursion P xs → Contains xs x → P x
each_contained P xs x all there = All-contains P xs x (All-from_recursion P xs all) there

-- what follows from a property of each member
pub each_weaker : {X : Type 0} (P Q : X → Type 0) → ((x : X) → P x → Q x) → (xs : List X) → AllByRecursion P xs → AllByRecursion Q xs
each_weaker P Q weaker [] all = tt
each_weaker P Q weaker (x ∷ xs) all = (weaker x all.0, each_weaker P Q weaker xs all.1)

-- what is true of everything is true of each member
pub each_any : {X : Type 0} (P : X → Type 0) → ((x : X) → P x) → (xs : List X) → AllByRecursion P xs
each_any P any [] = tt
each_any P any (x ∷ xs) = (any x, each_any P any xs)

-- ---- Lists with a member

-- a list with a member is not empty
pub not_nil : {X : Type 0} (before : List X) (x : X) (after : List X) → [] ≡ before ++ x ∷ after → ⊥
not_nil before x after same = let e = ap length same in omega (arith, e, length-append before (x ∷ after))

-- a list is empty, or has a last member
pub by_last : {X : Type 0} (xs : List X) → (xs ≡ []) ⊎ ((front : List X) × (last : X) × (xs ≡ front ++ last ∷ []))
by_last [] = inl refl
by_last (x ∷ xs) = inr (⊎_elim (λ e. ([], x, ap (λ zs. x ∷ zs) e)) (λ h. (x ∷ h.0, h.1, ap (λ zs. x ∷ zs) h.2)) (by_last xs))

-- ---- The member at a position

-- a list is what is before a position, there, and after it
pub split_at : {X : Type 0} (xs : List X) (at : ℕ) (d : X) → at < length xs → xs ≡ take at xs ++ get_or xs at d ∷ drop (at + 1) xs
split_at xs at d within = sym (take-append-drop at xs) ∙ ap (λ rest. take at xs ++ rest) (drop_more xs at d within)

-- one more member that is read
pub taken_more : {X : Type 0} (xs : List X) (i : ℕ) (x : X) → i < length xs → x ≡ get_or xs i x → take (i + 1) xs ≡ take i xs ++ x ∷ []
taken_more xs i x within there = take_more xs i x within ∙ ap (λ y. take i xs ++ y ∷ []) (sym there)
