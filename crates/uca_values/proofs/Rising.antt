-- Ranges in rising order: by index, and what they say of a code point.
use Rattle.std.proofs.Common.{◌≡◌, ℕ, zero, suc, ◌<◌, ◌≤◌, ◌⊎◌, inl, inr, Bool, true, false, ltb, leb, eqb, List, [], ◌∷◌, length, get_or, leb-true, leb-false, refl, sym, subst, arith}
use Rattle.std.specs.List.{AllByRecursion}
use Rattle.std.specs.List.Sorted.{IsPartitionPoint, IsPartitionedBy}
use Rattle.std.proofs.lemmas.Bool.Decides.{nat_tests}
use Rattle.std.proofs.lemmas.List.Recursion.{found_at, found_nowhere, or_at, or_from_places}
use Rattle.std.proofs.lemmas.Bool.{ltb-true, ltb-false, lt-ltb, cases_order}
use Rattle.std.proofs.Math.Nat.{eq-or-lt_of_le}
use Rattle.uca_values.specs.declared.ClassRange.{ClassRange}
use Rattle.uca_values.specs.declared.CodePointRange.{CodePointRange}
use Rattle.uca_values.specs.Ranges.{is_between, is_within, class_in, RiseBy, AreRising, AreRisingClasses}

-- ---- By index

pub all_at : {X : Type 0} (P : X → Type 0) (xs : List X) → AllByRecursion P xs → (i : ℕ) (d : X) → i < length xs → P (get_or xs i d)
all_at P [] h i d l = absurd (omega arith)
all_at P (x ∷ xs) h zero d l = h.0
all_at P (x ∷ xs) h (suc i) d l = all_at P xs h.1 i d (omega arith)

pub sound_at : {X : Type 0} (first last : X → ℕ) (xs : List X) → RiseBy first last xs → (i : ℕ) (d : X) → i < length xs → first (get_or xs i d) ≤ last (get_or xs i d)
sound_at first last [] h i d l = absurd (omega arith)
sound_at first last (x ∷ xs) h zero d l = h.0
sound_at first last (x ∷ xs) h (suc i) d l = sound_at first last xs h.2 i d (omega arith)

pub apart_at : {X : Type 0} (first last : X → ℕ) (xs : List X) → RiseBy first last xs → (i j : ℕ) (d : X) → i < j → j < length xs → last (get_or xs i d) < first (get_or xs j d)
apart_at first last [] h i j d l m = absurd (omega arith)
apart_at first last (x ∷ xs) h i zero d l m = absurd (omega arith)
apart_at first last (x ∷ xs) h zero (suc j) d l m = all_at (λ s. last x < first s) xs h.1 j d (omega arith)
apart_at first last (x ∷ xs) h (suc i) (suc j) d l m = apart_at first last xs h.2 i j d (omega arith) (omega arith)

-- ---- The position of a code point

pub parted : {X : Type 0} (first last : X → ℕ) (xs : List X) → RiseBy first last xs → (point : ℕ) → IsPartitionedBy (λ r. ltb (last r) point) xs
parted first last xs h point i j d l m t =
    elim (eq-or-lt_of_le l) [
      | inl e ↦ let P : ℕ → Type 0 = λ k. ltb (last (get_or xs k d)) point ≡ true in subst P (sym e) t
      | inr less ↦
          let a = apart_at first last xs h i j d less m in
          let b = sound_at first last xs h j d m in
          let c = ltb-true _ _ t in
          lt-ltb _ _ (omega (arith, a, b, c))
    ]

-- the ranges before the position end below the code point, and those from it on do not
abbrev pub IsPlace : {X : Type 0} → (X → ℕ) → ℕ → List X → ℕ → Type 0
IsPlace last point xs at = IsPartitionPoint (λ r. last r < point) (λ r. point ≤ last r) xs at

pub place_from_tests : {X : Type 0} (last : X → ℕ) (point : ℕ) (xs : List X) (at : ℕ) → IsPartitionPoint (λ r. ltb (last r) point ≡ true) (λ r. ltb (last r) point ≡ false) xs at → IsPlace last point xs at
place_from_tests last point xs at h = (λ k d a b. ltb-true _ _ (h.0 k d a b), λ k d a b. ltb-false _ _ (h.1 k d a b))

-- ---- What the ranges say of a code point

pub between_from : (a b point : ℕ) → a ≤ point → point ≤ b → is_between a b point ≡ true
between_from a b point h k = grind (arith, nat_tests)

pub between_false : (a b point : ℕ) → (point < a) ⊎ (b < point) → is_between a b point ≡ false
between_false a b point (inl h) = grind (arith, nat_tests)
between_false a b point (inr h) = grind (arith, nat_tests)

pub between_true : (a b point : ℕ) → is_between a b point ≡ true → (a ≤ point) × (point ≤ b)
between_true a b point h = grind (arith, nat_tests)

-- a range before the position, or after it, does not contain the code point
others_outside : {X : Type 0} (first last : X → ℕ) (xs : List X) → RiseBy first last xs → (point at : ℕ) → IsPlace last point xs at → (k : ℕ) (d : X) → k < length xs → (k < at) ⊎ (at < k) → is_between (first (get_or xs k d)) (last (get_or xs k d)) point ≡ false
others_outside first last xs h point at place k d l (inl below) = between_false _ _ point (inr (place.0 k d (omega arith) below))
others_outside first last xs h point at place k d l (inr above) =
    let a = apart_at first last xs h at k d above l in
    let b = place.1 at d (omega arith) (omega arith) in
    between_false _ _ point (inl (omega (arith, a, b)))

-- no range contains the code point, since that at the position does not
none_inside : {X : Type 0} (first last : X → ℕ) (xs : List X) → RiseBy first last xs → (point at : ℕ) → IsPlace last point xs at → (d : X) → (at < length xs → point < first (get_or xs at d)) → (k : ℕ) → k < length xs → is_between (first (get_or xs k d)) (last (get_or xs k d)) point ≡ false
none_inside first last xs h point at place d misses k l =
    elim (cases_order k at) [
      | inl e ↦
          let P : ℕ → Type 0 = λ i. i < length xs → is_between (first (get_or xs i d)) (last (get_or xs i d)) point ≡ false in
          subst P (sym e) (λ m. between_false _ _ point (inl (misses m))) l
      | inr other ↦ others_outside first last xs h point at place k d l other
    ]

pub class_found : (xs : List ClassRange) → AreRisingClasses xs → (point at : ℕ) → IsPlace (λ r. r.last) point xs at → (d : ClassRange) → at < length xs → (get_or xs at d).first ≤ point → class_in xs point ≡ (get_or xs at d).class
class_found xs h point at place d l low =
    found_at (λ rs. class_in rs point) (λ r. is_between r.first r.last point) (λ r. r.class) 0 refl (λ _ _. refl) xs at d l
    (λ k below. others_outside (λ (r : ClassRange). r.first) (λ r. r.last) xs h point at place k d (omega arith) (inl below))
    (between_from _ _ point low (place.1 at d (omega arith) l))

pub class_missed : (xs : List ClassRange) → AreRisingClasses xs → (point at : ℕ) → IsPlace (λ r. r.last) point xs at → (d : ClassRange) → (at < length xs → point < (get_or xs at d).first) → class_in xs point ≡ 0
class_missed xs h point at place d misses =
    found_nowhere (λ rs. class_in rs point) (λ r. is_between r.first r.last point) (λ r. r.class) 0 refl (λ _ _. refl) xs d
    (none_inside (λ (r : ClassRange). r.first) (λ r. r.last) xs h point at place d misses)

pub range_found : (xs : List CodePointRange) → AreRising xs → (point at : ℕ) → IsPlace (λ r. r.last) point xs at → (d : CodePointRange) → at < length xs → (get_or xs at d).first ≤ point → is_within xs point ≡ true
range_found xs h point at place d l low =
    or_at (λ rs. is_within rs point) (λ r. is_between r.first r.last point) refl (λ _ _. refl) xs at d l
    (between_from _ _ point low (place.1 at d (omega arith) l))

pub range_missed : (xs : List CodePointRange) → AreRising xs → (point at : ℕ) → IsPlace (λ r. r.last) point xs at → (d : CodePointRange) → (at < length xs → point < (get_or xs at d).first) → is_within xs point ≡ false
range_missed xs h point at place d misses =
    or_from_places (λ rs. is_within rs point) (λ r. is_between r.first r.last point) refl (λ _ _. refl) xs d
    (none_inside (λ (r : CodePointRange). r.first) (λ r. r.last) xs h point at place d misses)

-- ---- Code points below the first range

below_all : {X : Type 0} (first last : X → ℕ) (xs : List X) → RiseBy first last xs → (point : ℕ) (d : X) → (0 < length xs → point < first (get_or xs 0 d)) → IsPlace last point xs 0
below_all first last [] h point d low = (λ k e a b. absurd (omega arith), λ k e a b. absurd (omega arith))
below_all {X = X} first last (x ∷ xs) h point d low = (λ k e a b. absurd (omega arith), after)
  where
    after : (k : ℕ) (e : X) → 0 ≤ k → k < length (x ∷ xs) → point ≤ last (get_or (x ∷ xs) k e)
    after zero e a b = omega (arith, h.0, low (omega arith))
    after (suc k) e a b = omega (arith, h.0, low (omega arith), all_at (λ s. last x < first s) xs h.1 k e (omega arith), sound_at first last xs h.2 k e (omega arith))

-- no range contains a code point below the first one
pub class_below : (xs : List ClassRange) → AreRisingClasses xs → (point : ℕ) (d : ClassRange) → (0 < length xs → point < (get_or xs 0 d).first) → class_in xs point ≡ 0
class_below xs h point d low = class_missed xs h point 0 (below_all (λ (r : ClassRange). r.first) (λ r. r.last) xs h point d low) d low

pub range_below : (xs : List CodePointRange) → AreRising xs → (point : ℕ) (d : CodePointRange) → (0 < length xs → point < (get_or xs 0 d).first) → is_within xs point ≡ false
range_below xs h point d low = range_missed xs h point 0 (below_all (λ (r : CodePointRange). r.first) (λ r. r.last) xs h point d low) d low

pub empty_when : (n : ℕ) (b : Bool) → b ≡ eqb n 0 → b ≡ true → 0 < n → ⊥
empty_when n b e t l = grind (arith, nat_tests)

pub by_test : (a b : ℕ) (r : Bool) → (a ≤ b → r ≡ true) → (b < a → r ≡ false) → leb a b ≡ r
by_test a b r below above = go (leb a b) refl
  where
    go : (t : Bool) → leb a b ≡ t → t ≡ r
    go true e = sym (below (leb-true a b e))
    go false e = sym (above (leb-false a b e))

pub by_test_less : (a b : ℕ) (r : Bool) → b ≤ a → r ≡ false → ltb a b ≡ r
by_test_less a b r h e = grind (arith, nat_tests)
