-- Steps of comparing a key to both ends of a range.
use Rattle.std.proofs.Common.{◌≡◌, ◌↔◌, ◌⊎◌, inl, inr, ℕ, suc, ◌<◌, ◌≤◌, List, [], ◌∷◌, ◌++◌, refl, ap, sym, subst, ◌∙◌, arith}
use Rattle.std.specs.Ordering.{nat_cmp, ordering_then}
use Rattle.std.specs.declared.cmp.Ordering.{Ordering}
use Rattle.std.specs.declared.cmp.Ordering.TheVariants.{Less, Equal, Greater}
use Rattle.std.proofs.lemmas.Bool.Decides.{nat_tests}
use Rattle.uca_order.specs.Levels.{lexicographic}
use Rattle.uca_order.proofs.KeyOrder.{cmp_equal}
use Rattle.uca_compact.proofs.Below.{IsBelow, below_less, lexicographic_after}
use Rattle.uca_compact.proofs.LevelsOrder.{less_turned}
use Rattle.uca_ranges.specs.Ranges.{InRange}

-- ---- Statements that are true together

-- both are true
pub both_hold : {A B : Type 0} → A → B → A ↔ B
both_hold a b = ((λ h. b), (λ h. a))

-- neither is
pub neither_holds : {A B : Type 0} → (A → ⊥) → (B → ⊥) → A ↔ B
neither_holds first second = ((λ a. absurd (first a)), (λ b. absurd (second b)))

-- one after another
pub iff_then : {A B C : Type 0} → (A ↔ B) → (B ↔ C) → A ↔ C
iff_then h more = ((λ a. more.0 (h.0 a)), (λ c. h.1 (more.1 c)))

-- ---- Ranges

range_to : (low one high two key three : List ℕ) → low ≡ one → high ≡ two → key ≡ three → InRange low high key → InRange one two three
range_to low one high two key three a b c h =
    subst (λ (xs : List ℕ). InRange xs two three) a (subst (λ (xs : List ℕ). InRange low xs three) b (subst (λ (xs : List ℕ). InRange low high xs) c h))

-- by what the ends and the key are
pub range_as : (low one high two key three : List ℕ) → low ≡ one → high ≡ two → key ≡ three → InRange low high key ↔ InRange one two three
range_as low one high two key three a b c =
    (range_to low one high two key three a b c, range_to one low two high three key (sym a) (sym b) (sym c))

-- the same bytes before all three
pub range_after : (front low high key : List ℕ) → InRange (front ++ low) (front ++ high) (front ++ key) ↔ InRange low high key
range_after front low high key = (
  (λ h. ((λ less. h.0 (lexicographic_after front key low ∙ less)), sym (lexicographic_after front key high) ∙ h.1)),
  (λ h. ((λ less. h.0 (sym (lexicographic_after front key low) ∙ less)), lexicographic_after front key high ∙ h.1)),
)

-- a key below the low end
pub below_low : (low high key : List ℕ) → IsBelow key low → InRange low high key → ⊥
below_low low high key below h = h.0 (below_less key low below)

-- what is above the high end is not less
pub above_not : (high key : List ℕ) → IsBelow high key → lexicographic key high ≡ Less → ⊥
above_not high key below less =
    let turned : lexicographic key high ≡ Greater = less_turned high key (below_less high key below) in
    let same : Greater ≡ Less = sym turned ∙ less in
    cc

-- a key above the high end
pub above_high : (low high key : List ℕ) → IsBelow high key → InRange low high key → ⊥
above_high low high key below h = above_not high key below h.1

-- no bytes are less than nothing
pub from_nothing : (xs : List ℕ) → lexicographic xs [] ≡ Less → ⊥
from_nothing [] h = cc
from_nothing (x ∷ xs) h = cc

-- ---- Bytes that follow

-- a first byte that is the last one of an end, or a greater one
first_by : (x y : ℕ) (ys : List ℕ) (o : Ordering) → x ≤ y → nat_cmp y x ≡ o → ordering_then o (lexicographic ys []) ≡ Less → ⊥
first_by x y ys Less from is h = let less : y < x = grind (arith, nat_tests) in omega arith
first_by x y ys Equal from is h = from_nothing ys h
first_by x y ys Greater from is h = cc

pub from_byte : (x y : ℕ) (ys : List ℕ) → x ≤ y → lexicographic (y ∷ ys) (x ∷ []) ≡ Less → ⊥
from_byte x y ys from h = first_by x y ys (nat_cmp y x) from refl h

-- what comes after bytes with a last one is not less than these with the next one
pub past_last : (front : List ℕ) (x : ℕ) (key : List ℕ) → IsBelow (front ++ x ∷ []) key → lexicographic key (front ++ suc x ∷ []) ≡ Less → ⊥
past_last [] x [] below h = below
past_last [] x (y ∷ ys) (inl less) h = from_byte (suc x) y ys less h
past_last [] x (y ∷ ys) (inr same) h = same.1
past_last (z ∷ front) x [] below h = below
past_last (z ∷ front) x (y ∷ ys) (inl less) h = above_not (z ∷ (front ++ suc x ∷ [])) (y ∷ ys) (inl less) h
past_last (z ∷ front) x (y ∷ ys) (inr same) h =
    past_last front x ys same.1
    (sym (ap (λ (o : Ordering). ordering_then o (lexicographic ys (front ++ suc x ∷ []))) (cmp_equal y z (sym same.0))) ∙ h)

-- more bytes on one side
pub below_longer : (xs more ys : List ℕ) → IsBelow xs ys → IsBelow (xs ++ more) ys
below_longer [] more ys h = absurd h
below_longer (x ∷ xs) more [] h = absurd h
below_longer (x ∷ xs) more (y ∷ ys) (inl h) = inl h
below_longer (x ∷ xs) more (y ∷ ys) (inr h) = inr (h.0, below_longer xs more ys h.1)

pub below_longer_right : (xs ys more : List ℕ) → IsBelow xs ys → IsBelow xs (ys ++ more)
below_longer_right [] ys more h = absurd h
below_longer_right (x ∷ xs) [] more h = absurd h
below_longer_right (x ∷ xs) (y ∷ ys) more (inl h) = inl h
below_longer_right (x ∷ xs) (y ∷ ys) more (inr h) = inr (h.0, below_longer_right xs ys more h.1)

-- keys that have the same bytes as both ends, and then a byte between the last ones
pub range_between : (front : List ℕ) (low high b : ℕ) (more : List ℕ) → low ≤ b → b < high
    → InRange (front ++ low ∷ []) (front ++ high ∷ []) (front ++ b ∷ more)
range_between front low high b more from under =
    (range_after front (low ∷ []) (high ∷ []) (b ∷ more)).1 ((λ less. from_byte low b more from less), below_less (b ∷ more) (high ∷ []) (inl under))

-- ---- Two numbers

three_by : (v w : ℕ) (o : Ordering) → nat_cmp v w ≡ o → (v < w) ⊎ ((v ≡ w) ⊎ (w < v))
three_by v w Less is = inl (grind (arith, nat_tests))
three_by v w Equal is = inr (inl (grind (arith, nat_tests)))
three_by v w Greater is = inr (inr (grind (arith, nat_tests)))

-- one is less, or they are equal
pub three_ways : (v w : ℕ) → (v < w) ⊎ ((v ≡ w) ⊎ (w < v))
three_ways v w = three_by v w (nat_cmp v w) refl
