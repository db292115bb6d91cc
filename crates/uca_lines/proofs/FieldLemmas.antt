-- What a cut gives, by where it is cut.
use Rattle.std.proofs.Common.{◌≡◌, ℕ, zero, suc, ◌+◌, ◌<◌, ◌≤◌, Bool, true, false, not, List, [], ◌∷◌, ◌++◌, length, get_or, take, drop, refl, ap, sym, arith, ◌-◌, ◌&&◌, ◌==◌, ◌∙◌, length-append, eq-eqb, Some, None, Option}
use Rattle.std.proofs.lemmas.List.{take_rest}
use Rattle.std.proofs.lemmas.Bool.{false≢true}
use borrow.Author.Tests.{eqb-true}
use Rattle.std.specs.List.{list_all}
use Rattle.std.specs.Option.{option_map}
use Rattle.uca_lines.specs.Fields.{is_blank, up_to, from_first, skip_blanks, no_end_blanks, halves, word_of, after_word}

-- no byte before this position passes
abbrev pub NoneBefore : (ℕ → Bool) → List ℕ → ℕ → Type 0
NoneBefore p xs i = (k : ℕ) → k < i → p (get_or xs k 0) ≡ false

pub record IsCut (p : ℕ → Bool) (xs a b : List ℕ) : Type 0 where
  pub front : a ≡ up_to p xs
  pub back : b ≡ from_first p xs

cut_here : (p : ℕ → Bool) (x : ℕ) (xs : List ℕ) → p x ≡ true → IsCut p (x ∷ xs) [] (x ∷ xs)
cut_here p x xs h = record { front = rw h refl; back = rw h refl }

cut_later : (p : ℕ → Bool) (x : ℕ) (xs front back : List ℕ) → p x ≡ false → IsCut p xs front back → IsCut p (x ∷ xs) (x ∷ front) back
cut_later p x xs front back h c = record { front = rw h (ap (λ zs. x ∷ zs) c.front); back = rw h c.back }

pub cut_found : (p : ℕ → Bool) (xs : List ℕ) (i : ℕ) → i < length xs → NoneBefore p xs i → p (get_or xs i 0) ≡ true → IsCut p xs (take i xs) (drop i xs)
cut_found p [] i small none found = absurd (omega arith)
cut_found p (x ∷ xs) zero small none found = cut_here p x xs found
cut_found p (x ∷ xs) (suc i) small none found =
    cut_later p x xs (take i xs) (drop i xs) (none 0 (omega arith))
    (cut_found p xs i (omega arith) (λ k h. none (suc k) (omega arith)) found)

pub cut_nowhere : (p : ℕ → Bool) (xs : List ℕ) (i : ℕ) → length xs ≤ i → NoneBefore p xs i → IsCut p xs (take (length xs) xs) (drop (length xs) xs)
cut_nowhere p [] i all none = record { front = refl; back = refl }
cut_nowhere p (x ∷ xs) zero all none = absurd (omega arith)
cut_nowhere p (x ∷ xs) (suc i) all none =
    cut_later p x xs (take (length xs) xs) (drop (length xs) xs) (none 0 (omega arith))
    (cut_nowhere p xs i (omega arith) (λ k h. none (suc k) (omega arith)))

all_of_end : (p : ℕ → Bool) (xs : List ℕ) (x : ℕ) → p x ≡ true → list_all p (xs ++ x ∷ []) ≡ list_all p xs
all_of_end p [] x h = rw h refl
all_of_end p (y ∷ ys) x h = rw (all_of_end p ys x h) refl

not_all_of_end : (p : ℕ → Bool) (xs : List ℕ) (x : ℕ) → p x ≡ false → list_all p (xs ++ x ∷ []) ≡ false
not_all_of_end p [] x h = rw h refl
not_all_of_end p (y ∷ ys) x h = rw (not_all_of_end p ys x h) (elim (p y) as (λ v. v && false ≡ false) [ true ↦ refl | false ↦ refl ])

no_end_blanks-blank : (xs : List ℕ) (x : ℕ) → is_blank x ≡ true → no_end_blanks (xs ++ x ∷ []) ≡ no_end_blanks xs
no_end_blanks-blank [] x h = rw h refl
no_end_blanks-blank (y ∷ ys) x h = rw (all_of_end is_blank ys x h, no_end_blanks-blank ys x h) refl

no_end_blanks-other : (xs : List ℕ) (x : ℕ) → is_blank x ≡ false → no_end_blanks (xs ++ x ∷ []) ≡ xs ++ x ∷ []
no_end_blanks-other [] x h = rw h refl
no_end_blanks-other (y ∷ ys) x h = rw (not_all_of_end is_blank (y ∷ ys) x h, no_end_blanks-other ys x h) refl

-- a text that is not empty, by its last byte
pub before_last : (xs : List ℕ) (n : ℕ) → length xs ≡ suc n → take n xs ++ get_or xs n 0 ∷ [] ≡ xs
before_last [] n h = absurd (omega arith)
before_last (x ∷ []) zero h = refl
before_last (x ∷ []) (suc n) h = absurd (omega arith)
before_last (x ∷ y ∷ ys) zero h = absurd (omega arith)
before_last (x ∷ y ∷ ys) (suc n) h = ap (λ zs. x ∷ zs) (before_last (y ∷ ys) n (omega arith))

pub trimmed_more : (xs : List ℕ) (n : ℕ) → length xs ≡ suc n → true ≡ is_blank (get_or xs n 0) → no_end_blanks (take n xs) ≡ no_end_blanks xs
trimmed_more xs n some h = sym (no_end_blanks-blank (take n xs) _ (sym h)) ∙ ap no_end_blanks (before_last xs n some)

pub trimmed : (xs : List ℕ) (n : ℕ) → length xs ≡ suc n → false ≡ is_blank (get_or xs n 0) → no_end_blanks xs ≡ xs
trimmed xs n some h = ap no_end_blanks (sym (before_last xs n some)) ∙ (no_end_blanks-other (take n xs) _ (sym h) ∙ before_last xs n some)

-- no `..` ends before this position
abbrev pub NoDotsBefore : List ℕ → ℕ → Type 0
NoDotsBefore xs i = (k : ℕ) → suc k < i → get_or xs k 0 ≡ 46 → get_or xs (suc k) 0 ≡ 46 → ⊥

not_dots : (a b : ℕ) → (a ≡ 46 → b ≡ 46 → ⊥) → (a == 46 && b == 46) ≡ false
not_dots a b h = elim_dots (a == 46) (b == 46) (λ e f. h (eqb-true a 46 e) (eqb-true b 46 f))
  where
    elim_dots : (s t : Bool) → (s ≡ true → t ≡ true → ⊥) → (s && t) ≡ false
    elim_dots true true k = absurd (k refl refl)
    elim_dots true false k = refl
    elim_dots false t k = refl

halves_later : (a b : ℕ) (bs : List ℕ) (o : Option (List ℕ × List ℕ)) → (a ≡ 46 → b ≡ 46 → ⊥) → halves (b ∷ bs) ≡ o → halves (a ∷ b ∷ bs) ≡ option_map (λ h. (a ∷ h.0, h.1)) o
halves_later a b bs o h e = rw (not_dots a b h) (ap (λ v. option_map (λ h. (a ∷ h.0, h.1)) v) e)

pub halves_found : (xs : List ℕ) (i : ℕ) → suc i < length xs → NoDotsBefore xs (suc i) → get_or xs i 0 ≡ 46 → get_or xs (suc i) 0 ≡ 46 → halves xs ≡ Some (take i xs, drop (suc (suc i)) xs)
halves_found [] i small none one two = absurd (omega arith)
halves_found (a ∷ []) i small none one two = absurd (omega arith)
halves_found (a ∷ b ∷ bs) zero small none one two = rw (eq-eqb a 46 one, eq-eqb b 46 two) refl
halves_found (a ∷ b ∷ bs) (suc i) small none one two =
    halves_later a b bs (Some (take i (b ∷ bs), drop (suc (suc i)) (b ∷ bs))) (none 0 (omega arith))
    (halves_found (b ∷ bs) i (omega arith) (λ k h e f. none (suc k) (omega arith) e f) one two)

pub halves_nowhere : (xs : List ℕ) (i : ℕ) → length xs ≤ i → NoDotsBefore xs i → halves xs ≡ None
halves_nowhere [] i all none = refl
halves_nowhere (a ∷ []) i all none = refl
halves_nowhere (a ∷ b ∷ bs) zero all none = absurd (omega arith)
halves_nowhere (a ∷ b ∷ bs) (suc i) all none =
    halves_later a b bs None (none 0 (omega arith)) (halves_nowhere (b ∷ bs) i (omega arith) (λ k h e f. none (suc k) (omega arith) e f))

pub halves_at : (xs : List ℕ) (at : ℕ) → 1 ≤ at → at < length xs → NoDotsBefore xs at → get_or xs (at - 1) 0 ≡ 46 → get_or xs at 0 ≡ 46 → halves xs ≡ Some (take (at - 1) xs, take (length xs - (at + 1)) (drop (at + 1) xs))
halves_at xs zero low small none one two = absurd (omega arith)
halves_at xs (suc i) low small none one two =
    let before : suc i - 1 ≡ i = omega arith in
    let after : suc i + 1 ≡ suc (suc i) = omega arith in
    rw (before, take_rest xs (suc i + 1), after) (halves_found xs i small none (rw before at one) two)

-- what a cut leaves begins with a byte that passes
pub from_first_passes : (p : ℕ → Bool) (text : List ℕ) (x : ℕ) (rest : List ℕ) → from_first p text ≡ x ∷ rest → p x ≡ true
from_first_passes p [] x rest h = absurd (let e : [] ≡ x ∷ rest = h in cc)
from_first_passes p (b ∷ bs) x rest h = cases (from_first_passes p bs x rest) (p b) refl
  where
    cases : (from_first p bs ≡ x ∷ rest → p x ≡ true) → (v : Bool) → p b ≡ v → p x ≡ true
    cases later true e = let k = rw e at h in let same : b ≡ x = cc in ap p (sym same) ∙ e
    cases later false e = let k = rw e at h in later k

-- a text is its two parts
pub parts_of_cut : (p : ℕ → Bool) (text : List ℕ) → text ≡ up_to p text ++ from_first p text
parts_of_cut p [] = refl
parts_of_cut p (b ∷ bs) = cases (parts_of_cut p bs) (p b) refl
  where
    cases : bs ≡ up_to p bs ++ from_first p bs → (v : Bool) → p b ≡ v → b ∷ bs ≡ up_to p (b ∷ bs) ++ from_first p (b ∷ bs)
    cases later true e = rw e refl
    cases later false e = rw e (ap (λ zs. b ∷ zs) later)

-- the word after the blanks at the front of a text is not empty, if something follows the blanks
pub word_some : (text : List ℕ) (b : ℕ) (bs : List ℕ) → skip_blanks text ≡ b ∷ bs → 1 ≤ length (word_of (b ∷ bs))
word_some text b bs h = some (is_blank b) refl (from_first_passes _ text b bs h)
  where
    some : (v : Bool) → is_blank b ≡ v → not (is_blank b) ≡ true → 1 ≤ length (word_of (b ∷ bs))
    some true e k = absurd (let n = rw e at k in false≢true n)
    some false e k = rw e (omega arith)

-- without the blanks at its front a text is not longer
pub length-from_first : (p : ℕ → Bool) (text : List ℕ) → length (from_first p text) ≤ length text
length-from_first p text = omega (arith, ap length (parts_of_cut p text), length-append (up_to p text) (from_first p text))

pub length-skip_blanks : (text : List ℕ) → length (skip_blanks text) ≤ length text
length-skip_blanks text = length-from_first _ text

-- the length of a text is that of its first word and of what follows that word
pub length-after_word : (text : List ℕ) → length (after_word text) + length (word_of text) ≡ length text
length-after_word text = omega (arith, ap length (parts_of_cut is_blank text), length-append (up_to is_blank text) (from_first is_blank text))
