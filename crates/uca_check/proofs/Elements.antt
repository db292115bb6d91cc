-- What is true of each element of a row: one more of the first elements, and the one at a position.
use Rattle.std.proofs.Common.{◌≡◌, ℕ, zero, suc, ◌+◌, ◌<◌, List, [], ◌∷◌, ◌++◌, length, take, get_or, ap, sym, subst, append_assoc, ◌∙◌, arith}
use Rattle.std.specs.List.{AllByRecursion}
use Rattle.uca_weights.specs.declared.Element.{Element}
use Rattle.std.proofs.lemmas.List.{take_more}
pub use Rattle.uca_weights.proofs.Lists.{each_push, each_weaker, each_any, taken_more}

-- one more element of a row, after those of the rows before it
pub after_more : (front xs : List Element) (i : ℕ) (d : Element) → i < length xs → (front ++ take i xs) ++ get_or xs i d ∷ [] ≡ front ++ take (i + 1) xs
after_more front xs i d within = append_assoc front (take i xs) (get_or xs i d ∷ []) ∙ ap (λ ys. front ++ ys) (sym (take_more xs i d within))

-- what is true of each element is true of the one at a position
pub each_at : (P : Element → Type 0) (xs : List Element) (i : ℕ) (d : Element) → i < length xs → AllByRecursion P xs → P (get_or xs i d)
each_at P [] i d within all = absurd (omega arith)
each_at P (x ∷ xs) zero d within all = all.0
each_at P (x ∷ xs) (suc i) d within all = each_at P xs i d (omega arith) all.1

-- and with it, of one more of the first ones
pub each_taken : (P : Element → Type 0) (xs : List Element) (i : ℕ) (d : Element) → i < length xs → AllByRecursion P (take i xs) → P (get_or xs i d)
    → AllByRecursion P (take (i + 1) xs)
each_taken P xs i d within all here = subst (AllByRecursion P) (sym (take_more xs i d within)) ((each_push P (take i xs) (get_or xs i d)).1 (all, here))
