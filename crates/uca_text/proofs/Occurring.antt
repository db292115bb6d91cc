-- Lists whose members occur in order in another.
use Rattle.std.proofs.Common.{ℕ, zero, suc, List, [], ◌∷◌, ◌++◌, take, inl, inr, refl, sym, ap, subst, ◌∙◌, ⊎_elim}
use Rattle.std.specs.List.{AllByRecursion}
use Rattle.uca_text.specs.Texts.{Text, code_points}
use Rattle.uca_text.specs.Occurring.{OccursInOrder}

-- the other list may begin with more
pub occurs_more : {A : Type 0} (xs : List A) (y : A) (ys : List A) → OccursInOrder xs ys → OccursInOrder xs (y ∷ ys)
occurs_more [] y ys h = tt
occurs_more (x ∷ xs) y ys h = inr h

-- a list occurs in itself
pub occurs_refl : {A : Type 0} (xs : List A) → OccursInOrder xs xs
occurs_refl [] = tt
occurs_refl (x ∷ xs) = inl (refl, occurs_refl xs)

-- and in what its other list occurs in
pub occurs_trans : {A : Type 0} (xs ys zs : List A) → OccursInOrder xs ys → OccursInOrder ys zs → OccursInOrder xs zs
occurs_trans [] ys zs h k = tt
occurs_trans (x ∷ xs) [] zs h k = absurd h
occurs_trans (x ∷ xs) (y ∷ ys) [] h k = absurd k
occurs_trans (x ∷ xs) (y ∷ ys) (z ∷ zs) h k =
    ⊎_elim
    (λ here. ⊎_elim (λ first. inl (first.0 ∙ here.0, occurs_trans xs ys zs first.1 here.1)) (λ later. inr (occurs_trans (x ∷ xs) ys zs later here.1)) h)
    (λ later. inr (occurs_trans (x ∷ xs) (y ∷ ys) zs h later))
    k

-- two lists, put together
pub occurs_append : {A : Type 0} (xs ys us vs : List A) → OccursInOrder xs ys → OccursInOrder us vs → OccursInOrder (xs ++ us) (ys ++ vs)
occurs_append [] [] us vs h k = k
occurs_append [] (y ∷ ys) us vs h k = occurs_more us y (ys ++ vs) (occurs_append [] ys us vs tt k)
occurs_append (x ∷ xs) [] us vs h k = absurd h
occurs_append (x ∷ xs) (y ∷ ys) us vs h k =
    ⊎_elim (λ here. inl (here.0, occurs_append xs ys us vs here.1 k)) (λ later. inr (occurs_append (x ∷ xs) ys us vs later k)) h

-- a list occurs in one that begins with it
pub occurs_front : {A : Type 0} (xs ys : List A) → OccursInOrder xs (xs ++ ys)
occurs_front [] ys = tt
occurs_front (x ∷ xs) ys = inl (refl, occurs_front xs ys)

-- the first members of a list, and the later ones
pub occurs_take : {A : Type 0} (n : ℕ) (xs : List A) → OccursInOrder (take n xs) xs
occurs_take zero xs = tt
occurs_take (suc n) [] = tt
occurs_take (suc n) (x ∷ xs) = inl (refl, occurs_take n xs)

-- where code points with classes occur, the code points occur
pub occurs_code_points : (s t : Text) → OccursInOrder s t → OccursInOrder (code_points s) (code_points t)
occurs_code_points [] t h = tt
occurs_code_points (c ∷ s) [] h = absurd h
occurs_code_points (c ∷ s) (d ∷ t) h =
    ⊎_elim (λ here. inl (ap (λ l. l.code) here.0, occurs_code_points s t here.1)) (λ later. inr (occurs_code_points (c ∷ s) t later)) h

-- what is true of each member of a list is true of each member of one that occurs in it
pub each_occurring : {A : Type 0} (P : A → Type 0) (xs ys : List A) → OccursInOrder xs ys → AllByRecursion P ys → AllByRecursion P xs
each_occurring P [] ys h all = tt
each_occurring P (x ∷ xs) [] h all = absurd h
each_occurring P (x ∷ xs) (y ∷ ys) h all =
    ⊎_elim (λ here. (subst P (sym here.0) all.0, each_occurring P xs ys here.1 all.1)) (λ later. each_occurring P (x ∷ xs) ys later all.1) h
