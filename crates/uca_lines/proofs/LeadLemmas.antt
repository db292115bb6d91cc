-- Values that come in turn in a text: one more, and that there is one way to read them.
use Rattle.std.proofs.Common.{◌≡◌, ◌≢◌, ℕ, ◌≤◌, Bool, true, false, List, [], ◌∷◌, ◌++◌, length, Some, refl, ap, sym, subst, ◌∙◌, arith, length-append}
use Rattle.std.proofs.lemmas.Option.{same_Some}
use Rattle.uca_lines.specs.Fields.{from_first, skip_blanks}
use Rattle.uca_lines.specs.Numbers.{code_point_of}
use Rattle.uca_lines.specs.Leads.{Leads, BeginsCodePoint, BeginsWord}

-- a byte that passes stays at the front
from_first_again : (p : ℕ → Bool) (text : List ℕ) → from_first p (from_first p text) ≡ from_first p text
from_first_again p [] = refl
from_first_again p (b ∷ bs) = cases (from_first_again p bs) (p b) refl
  where
    cases : from_first p (from_first p bs) ≡ from_first p bs → (v : Bool) → p b ≡ v → from_first p (from_first p (b ∷ bs)) ≡ from_first p (b ∷ bs)
    cases again true e = rw (e, e) refl
    cases again false e = rw e again

pub skip_blanks-again : (text : List ℕ) → skip_blanks (skip_blanks text) ≡ skip_blanks text
skip_blanks-again text = from_first_again _ text

-- blanks in front of the values don't matter
pub leads_skip : {X : Type 0} (B : List ℕ → X → List ℕ → Type 0) (text : List ℕ) (xs : List X) (rest : List ℕ) → Leads B text xs rest → Leads B (skip_blanks text) xs rest
leads_skip B text [] rest h = skip_blanks-again text ∙ h
leads_skip B text (x ∷ xs) rest h = (h.0, subst (λ t. B t x h.0) (sym (skip_blanks-again text)) h.1, h.2)

pub leads_from_skip : {X : Type 0} (B : List ℕ → X → List ℕ → Type 0) (text : List ℕ) (xs : List X) (rest : List ℕ) → Leads B (skip_blanks text) xs rest → Leads B text xs rest
leads_from_skip B text [] rest h = sym (skip_blanks-again text) ∙ h
leads_from_skip B text (x ∷ xs) rest h = (h.0, subst (λ t. B t x h.0) (skip_blanks-again text) h.1, h.2)

-- one more value
pub leads_push : {X : Type 0} (B : List ℕ → X → List ℕ → Type 0) (text : List ℕ) (xs : List X) (rest : List ℕ) (x : X) (more : List ℕ) → Leads B text xs rest → B rest x more → Leads B text (xs ++ x ∷ []) (skip_blanks more)
leads_push B text [] rest x more h b = (more, subst (λ t. B t x more) (sym h) b, refl)
leads_push B text (y ∷ ys) rest x more h b = (h.0, h.1, leads_push B h.0 ys rest x more h.2 b)

-- A text begins with one value at most, and the empty text with none.
pub record IsExact {X : Type 0} (B : List ℕ → X → List ℕ → Type 0) : Type 0 where
  pub same : (text : List ℕ) (x y : X) (a b : List ℕ) → B text x a → B text y b → (x ≡ y) × (a ≡ b)
  pub some : (x : X) (a : List ℕ) → B [] x a → ⊥

-- the values up to a rest begin all the values, and the others come in the rest
pub leads_split : {X : Type 0} (B : List ℕ → X → List ℕ → Type 0) → IsExact B → (text : List ℕ) (front : List X) (rest : List ℕ) (xs : List X) → Leads B text front rest → Leads B text xs [] → (tail : List X) × (xs ≡ front ++ tail) × Leads B rest tail []
leads_split B exact text [] rest xs f h = (xs, refl, subst (λ t. Leads B t xs []) f (leads_skip B text xs [] h))
leads_split B exact text (x ∷ front) rest [] f h = absurd (exact.some x f.0 (subst (λ t. B t x f.0) h f.1))
leads_split B exact text (x ∷ front) rest (y ∷ ys) f h =
    let one = exact.same (skip_blanks text) x y f.0 h.0 f.1 h.1 in
    let split = leads_split B exact f.0 front rest ys f.2 (subst (λ t. Leads B t ys []) (sym one.1) h.2) in
    (split.0, ap (λ z. z ∷ ys) (sym one.0) ∙ ap (λ zs. x ∷ zs) split.1, split.2)

-- a text is one list of values
pub leads_same : {X : Type 0} (B : List ℕ → X → List ℕ → Type 0) → IsExact B → (text : List ℕ) (xs ys : List X) → Leads B text xs [] → Leads B text ys [] → xs ≡ ys
leads_same B exact text [] [] h k = refl
leads_same B exact text [] (y ∷ ys) h k = absurd (exact.some y k.0 (subst (λ t. B t y k.0) h k.1))
leads_same B exact text (x ∷ xs) [] h k = absurd (exact.some x h.0 (subst (λ t. B t x h.0) k h.1))
leads_same B exact text (x ∷ xs) (y ∷ ys) h k =
    let one = exact.same (skip_blanks text) x y h.0 k.0 h.1 k.1 in
    ap (λ z. z ∷ xs) one.0 ∙ ap (λ zs. y ∷ zs) (leads_same B exact h.0 xs ys h.2 (subst (λ t. Leads B t ys []) (sym one.1) k.2))

-- a text that has no value where one must come is no list of values
pub leads_barred : {X : Type 0} (B : List ℕ → X → List ℕ → Type 0) → IsExact B → (text : List ℕ) (front : List X) (rest : List ℕ) (xs : List X) → Leads B text front rest → skip_blanks rest ≢ [] → ((x : X) (more : List ℕ) → B (skip_blanks rest) x more → ⊥) → Leads B text xs [] → ⊥
leads_barred {X = X} B exact text front rest xs f some none h = barred (leads_split B exact text front rest xs f h)
  where
    barred : (tail : List X) × (xs ≡ front ++ tail) × Leads B rest tail [] → ⊥
    barred ([], e, k) = some k
    barred (x ∷ tail, e, k) = none x k.0 k.1

-- the values up to a rest are at most as many as all
pub leads_within : {X : Type 0} (B : List ℕ → X → List ℕ → Type 0) → IsExact B → (text : List ℕ) (front : List X) (rest : List ℕ) (xs : List X) → Leads B text front rest → Leads B text xs [] → length front ≤ length xs
leads_within B exact text front rest xs f h =
    let split = leads_split B exact text front rest xs f h in
    omega (arith, ap length split.1, length-append front split.0)

pub exact_code_points : IsExact BeginsCodePoint
exact_code_points = record {
  same = λ text x y a b h k. (same_Some x y (sym h.word ∙ k.word), sym h.rest ∙ k.rest);
  some = λ x a h. none_is x h.word;
}
  where
    none_is : (x : ℕ) → code_point_of [] ≡ Some x → ⊥
    none_is x e = cc

pub exact_words : IsExact BeginsWord
exact_words = record {
  same = λ text x y a b h k. (sym h.word ∙ k.word, sym h.rest ∙ k.rest);
  some = λ x a h. empty x h.word h.some;
}
  where
    empty : (x : List ℕ) → [] ≡ x → 1 ≤ length x → ⊥
    empty [] e k = omega arith
    empty (b ∷ bs) e k = cc

-- one more value, by the lists before it and with it
pub leads_more : {X : Type 0} (B : List ℕ → X → List ℕ → Type 0) (text : List ℕ) (xs ys : List X) (rest : List ℕ) (x : X) (more after : List ℕ) → Leads B text xs rest → B rest x more → ys ≡ xs ++ x ∷ [] → after ≡ skip_blanks more → Leads B text ys after
leads_more {X = X} B text xs ys rest x more after h b e a =
    let P : List X → Type 0 = λ zs. Leads B text zs after in
    subst P (sym e) (subst (λ (t : List ℕ). Leads B text (xs ++ x ∷ []) t) (sym a) (leads_push B text xs rest x more h b))
