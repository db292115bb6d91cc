-- Lines that say one thing, from what is true of each line.
use Rattle.std.proofs.Common.{◌≡◌, ℕ, zero, suc, List, [], ◌∷◌, ◌++◌, length, refl, sym, ◌∙◌, ap, subst, append_assoc, arith, length-append, append-nil}
use Rattle.uca_lines.specs.FileMeanings.{IsExact, IsExactByLine}

-- a list that is not empty has a last element
from_last : {X : Type 0} (x : X) (xs : List X) → (front : List X) × (last : X) × (x ∷ xs ≡ front ++ last ∷ [])
from_last x [] = ([], x, refl)
from_last x (y ∷ ys) = let r = from_last y ys in (x ∷ r.0, r.1, ap (λ l. x ∷ l) r.2)

-- without its last element a list is one shorter
front_shorter : {X : Type 0} (xs front : List X) (last : X) (n : ℕ) → xs ≡ front ++ last ∷ [] → length xs ≡ suc n → length front ≡ n
front_shorter xs front last n e h = omega (arith, ap length e, length-append front (last ∷ []))

-- lines of one length say one thing
same_of : {K S : Type 0} (Says : List (List ℕ) → S → Type 0) (Takes : S → List ℕ → S → Type 0) (Cause : S → List ℕ → K → Type 0)
    → IsExactByLine Says Takes Cause
    → (n : ℕ) (lines : List (List ℕ)) → length lines ≡ n → (s t : S) → Says lines s → Says lines t → s ≡ t
same_of Says Takes Cause exact zero [] h s t p q = exact.start s t p q
same_of Says Takes Cause exact zero (l ∷ ls) h s t p q = absurd (omega arith)
same_of Says Takes Cause exact (suc n) [] h s t p q = absurd (omega arith)
same_of {K} {S} Says Takes Cause exact (suc n) (l ∷ ls) h s t p q =
    let r = from_last l ls in
    let first = exact.last r.0 r.1 s (subst (λ (xs : List (List ℕ)). Says xs s) r.2 p) in
    let second = exact.last r.0 r.1 t (subst (λ (xs : List (List ℕ)). Says xs t) r.2 q) in
    let e : first.0 ≡ second.0 = same_of Says Takes Cause exact n r.0 (front_shorter (l ∷ ls) r.0 r.1 n r.2 h) first.0 second.0 first.1 second.1 in
    exact.one second.0 r.1 s t (subst (λ (x : S). Takes x r.1 s) e first.2) second.2

-- the beginning of acceptable lines is acceptable
begins : {K S : Type 0} (Says : List (List ℕ) → S → Type 0) (Takes : S → List ℕ → S → Type 0) (Cause : S → List ℕ → K → Type 0) → IsExactByLine Says Takes Cause
    → (n : ℕ) (before more : List (List ℕ)) → length more ≡ n → (t : S) → Says (before ++ more) t → (s : S) × Says before s
begins Says Takes Cause exact zero before [] h t p = (t, subst (λ (xs : List (List ℕ)). Says xs t) (append-nil before) p)
begins Says Takes Cause exact zero before (l ∷ ls) h t p = absurd (omega arith)
begins Says Takes Cause exact (suc n) before [] h t p = absurd (omega arith)
begins Says Takes Cause exact (suc n) before (l ∷ ls) h t p =
    let r = from_last l ls in
    let e : before ++ l ∷ ls ≡ (before ++ r.0) ++ r.1 ∷ [] = ap (λ (xs : List (List ℕ)). before ++ xs) r.2 ∙ sym (append_assoc before r.0 (r.1 ∷ [])) in
    let last = exact.last (before ++ r.0) r.1 t (subst (λ (xs : List (List ℕ)). Says xs t) e p) in
    begins Says Takes Cause exact n before r.0 (front_shorter (l ∷ ls) r.0 r.1 n r.2 h) last.0 last.1

-- lines are exact where each line is
pub exact_by_line : {K S : Type 0} (Says : List (List ℕ) → S → Type 0) (Takes : S → List ℕ → S → Type 0) (Cause : S → List ℕ → K → Type 0)
    → IsExactByLine Says Takes Cause → IsExact Says Cause
exact_by_line {K} {S} Says Takes Cause exact = record {
  same = λ lines s t p q. same_of Says Takes Cause exact (length lines) lines refl s t p q;
  excluded = λ before s line kind more t says cause whole.
      let e : before ++ line ∷ more ≡ (before ++ line ∷ []) ++ more = sym (append_assoc before (line ∷ []) more) in
      let to = begins Says Takes Cause exact (length more) (before ++ line ∷ []) more refl t (subst (λ (xs : List (List ℕ)). Says xs t) e whole) in
      let last = exact.last before line to.0 to.1 in
      let same : last.0 ≡ s = same_of Says Takes Cause exact (length before) before refl last.0 s last.1 says in
      exact.barred s line kind to.0 cause (subst (λ (x : S). Takes x line to.0) same last.2);
}
