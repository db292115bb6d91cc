-- Looking for the members of one list in another, in their order: one step further, and the end.
use Rattle.std.proofs.Common.{◌≡◌, ◌≢◌, ◌↔◌, ℕ, ◌+◌, ◌-◌, ◌<◌, ◌≤◌, List, [], ◌∷◌, length, drop, get_or, IsTrue, nat_eq, eq-eqb, sym, subst, inl, inr, ⊎_elim, arith}
use Rattle.std.proofs.Math.Nat.{eq-or-lt_of_le}
use Rattle.std.proofs.Math.ListN.{drop_of_length-le}
use Rattle.std.proofs.lemmas.Bool.{eqb-true}
use Rattle.std.proofs.lemmas.List.{drop_more, length-drop, nil_from_length}
use Rattle.uca_text.specs.Occurring.{OccursInOrder}
use Rattle.uca_text.proofs.Occurring.{occurs_trans, occurs_more, occurs_refl}

-- a list without its first member occurs where it does
pub occurs_less : (x : ℕ) (xs ys : List ℕ) → OccursInOrder (x ∷ xs) ys → OccursInOrder xs ys
occurs_less x xs ys h = occurs_trans xs (x ∷ xs) ys (occurs_more xs x xs (occurs_refl xs)) h

-- the first members are the same: the others are looked for after them
pub found_same : (x y : ℕ) (xs ys : List ℕ) → x ≡ y → OccursInOrder (x ∷ xs) (y ∷ ys) ↔ OccursInOrder xs ys
found_same x y xs ys same = (⊎_elim (λ here. here.1) (λ later. occurs_less x xs ys later), λ h. inl (same, h))

-- they are not: the first one is looked for further on
pub found_other : (x y : ℕ) (xs ys : List ℕ) → x ≢ y → OccursInOrder (x ∷ xs) (y ∷ ys) ↔ OccursInOrder (x ∷ xs) ys
found_other x y xs ys other = (⊎_elim (λ here. absurd (other here.0)) (λ later. later), λ h. inr h)

-- one position further in the text, and in the part
pub both_further : (part text : List ℕ) (at i x y : ℕ) → at < length part → i < length text → x ≡ get_or part at x → y ≡ get_or text i y → x ≡ y
    → (OccursInOrder part text ↔ OccursInOrder (drop at part) (drop i text))
    → OccursInOrder part text ↔ OccursInOrder (drop (at + 1) part) (drop (i + 1) text)
both_further part text at i x y part_has text_has x_is y_is same so_far =
    let parts : drop at part ≡ x ∷ drop (at + 1) part = subst (λ (z : ℕ). drop at part ≡ z ∷ drop (at + 1) part) (sym x_is) (drop_more part at x part_has) in
    let texts : drop i text ≡ y ∷ drop (i + 1) text = subst (λ (z : ℕ). drop i text ≡ z ∷ drop (i + 1) text) (sym y_is) (drop_more text i y text_has) in
    let step = found_same x y (drop (at + 1) part) (drop (i + 1) text) same in
    let here : OccursInOrder part text ↔ OccursInOrder (x ∷ drop (at + 1) part) (y ∷ drop (i + 1) text) =
    subst (λ (s : List ℕ). OccursInOrder part text ↔ OccursInOrder (x ∷ drop (at + 1) part) s) texts
    (subst (λ (s : List ℕ). OccursInOrder part text ↔ OccursInOrder s (drop i text)) parts so_far) in
    (λ h. step.0 (here.0 h), λ h. here.1 (step.1 h))

pub text_further : (part text : List ℕ) (at i x y : ℕ) → at < length part → i < length text → x ≡ get_or part at x → y ≡ get_or text i y → x ≢ y
    → (OccursInOrder part text ↔ OccursInOrder (drop at part) (drop i text))
    → OccursInOrder part text ↔ OccursInOrder (drop at part) (drop (i + 1) text)
text_further part text at i x y part_has text_has x_is y_is other so_far =
    let parts : drop at part ≡ x ∷ drop (at + 1) part = subst (λ (z : ℕ). drop at part ≡ z ∷ drop (at + 1) part) (sym x_is) (drop_more part at x part_has) in
    let texts : drop i text ≡ y ∷ drop (i + 1) text = subst (λ (z : ℕ). drop i text ≡ z ∷ drop (i + 1) text) (sym y_is) (drop_more text i y text_has) in
    let step = found_other x y (drop (at + 1) part) (drop (i + 1) text) other in
    let here : OccursInOrder part text ↔ OccursInOrder (x ∷ drop (at + 1) part) (y ∷ drop (i + 1) text) =
    subst (λ (s : List ℕ). OccursInOrder part text ↔ OccursInOrder (x ∷ drop (at + 1) part) s) texts
    (subst (λ (s : List ℕ). OccursInOrder part text ↔ OccursInOrder s (drop i text)) parts so_far) in
    subst (λ (s : List ℕ). OccursInOrder part text ↔ OccursInOrder s (drop (i + 1) text)) (sym parts) (λ h. step.0 (here.0 h), λ h. here.1 (step.1 h))

-- all of the part has been found
pub all_found : (part text : List ℕ) (at i : ℕ) → drop at part ≡ []
    → (OccursInOrder part text ↔ OccursInOrder (drop at part) (drop i text)) → OccursInOrder part text
all_found part text at i none so_far = so_far.1 (subst (λ (s : List ℕ). OccursInOrder s (drop i text)) (sym none) tt)

-- what is not empty does not occur in nothing
nothing_there : (xs : List ℕ) → 0 < length xs → ¬ (OccursInOrder xs [])
nothing_there [] some h = omega (arith, some)
nothing_there (x ∷ xs) some h = h

-- the text has been gone through, and less than the part has been found
some_left : (part text : List ℕ) (at i : ℕ) → length text ≤ i → at < length part
    → (OccursInOrder part text ↔ OccursInOrder (drop at part) (drop i text)) → ¬ (OccursInOrder part text)
some_left part text at i over less so_far h =
    let count : length (drop at part) ≡ length part - at = length-drop at part in
    let some : 0 < length (drop at part) = omega arith in
    let left : OccursInOrder (drop at part) [] = subst (λ (s : List ℕ). OccursInOrder (drop at part) s) (drop_of_length-le text over) (so_far.0 h) in
    nothing_there (drop at part) some left

-- how much of the part has been found says whether it occurs
pub ended : (part text : List ℕ) (at i : ℕ) → length text ≤ i → at ≤ length part
    → (OccursInOrder part text ↔ OccursInOrder (drop at part) (drop i text)) → IsTrue (nat_eq at (length part)) ↔ OccursInOrder part text
ended part text at i over within so_far = (
  (λ yes.
      let all : at ≡ length part = eqb-true at (length part) yes in
      let count : length (drop at part) ≡ length part - at = length-drop at part in
      let none : length (drop at part) ≡ 0 = omega arith in
      all_found part text at i (nil_from_length (drop at part) none) so_far),
  (λ h. ⊎_elim (λ same. eq-eqb at (length part) same) (λ less. absurd (some_left part text at i over less so_far h)) (eq-or-lt_of_le within)),
)
