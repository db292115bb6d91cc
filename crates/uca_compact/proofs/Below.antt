-- Pairs of byte strings where neither begins the other.
use Rattle.std.proofs.Common.{◌≡◌, ◌⊎◌, inl, inr, ℕ, ◌<◌, List, [], ◌∷◌, ◌++◌, refl, ap, ◌∙◌}
use Rattle.std.specs.Ordering.{ordering_then}
use Rattle.std.specs.declared.cmp.Ordering.TheVariants.{Less}
use Rattle.uca_order.specs.Levels.{lexicographic}
use Rattle.uca_order.proofs.KeyOrder.{cmp_less, cmp_equal}

-- They differ before either ends, and there the first has the lesser byte. So they do whatever follows them.
abbrev pub IsBelow : List ℕ → List ℕ → Type 0
IsBelow [] ys = ⊥
IsBelow (x ∷ xs) [] = ⊥
IsBelow (x ∷ xs) (y ∷ ys) = (x < y) ⊎ ((x ≡ y) × IsBelow xs ys)

-- whatever follows
pub below_append : (xs ys more others : List ℕ) → IsBelow xs ys → IsBelow (xs ++ more) (ys ++ others)
below_append [] ys more others h = absurd h
below_append (x ∷ xs) [] more others h = absurd h
below_append (x ∷ xs) (y ∷ ys) more others (inl h) = inl h
below_append (x ∷ xs) (y ∷ ys) more others (inr h) = inr (h.0, below_append xs ys more others h.1)

-- and after the same bytes
pub below_after : (front xs ys : List ℕ) → IsBelow xs ys → IsBelow (front ++ xs) (front ++ ys)
below_after [] xs ys h = h
below_after (x ∷ front) xs ys h = inr (refl, below_after front xs ys h)

-- so they compare
pub below_less : (xs ys : List ℕ) → IsBelow xs ys → lexicographic xs ys ≡ Less
below_less [] ys h = absurd h
below_less (x ∷ xs) [] h = absurd h
below_less (x ∷ xs) (y ∷ ys) (inl h) = ap (λ o. ordering_then o (lexicographic xs ys)) (cmp_less x y h)
below_less (x ∷ xs) (y ∷ ys) (inr h) = ap (λ o. ordering_then o (lexicographic xs ys)) (cmp_equal x y h.0) ∙ below_less xs ys h.1

-- the same bytes before others
pub lexicographic_after : (front xs ys : List ℕ) → lexicographic (front ++ xs) (front ++ ys) ≡ lexicographic xs ys
lexicographic_after [] xs ys = refl
lexicographic_after (x ∷ front) xs ys =
    ap (λ o. ordering_then o (lexicographic (front ++ xs) (front ++ ys))) (cmp_equal x x refl) ∙ lexicographic_after front xs ys
