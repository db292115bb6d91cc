-- Positions in a text: what is left from there on, and which code points are gone.
use Rattle.std.proofs.Common.{◌≡◌, ℕ, zero, suc, ◌+◌, ◌<◌, ◌≤◌, List, [], ◌∷◌, ◌++◌, length, drop, get_or, Bool, true, false, cond, sym, ap, refl}
use Rattle.std.proofs.Common.{◌∙◌, arith, ◌≢◌, ◌-◌, ◌*◌, ◌/◌, ◌%◌, ◌^◌, ◌&&◌, nat_le, nat_eq, bit_and, bit_or, w64, ⊎_elim}
use Rattle.std.proofs.lemmas.Bool.{cond_both, cond-true, cond-false, cases_lt}
use Rattle.std.proofs.lemmas.List.{drop_all}
use Rattle.std.proofs.Math.Seq.{drop-cons}
use Rattle.uca_text.specs.Texts.{ClassedCodePoint, Text, NfdText, with_classes, classed}
use Rattle.uca_elements.specs.Places.{is_gone, left_from, left_at, left_of, IsPlace}
use Rattle.uca_elements.specs.declared.places.Place.{Place}
use Rattle.std.proofs.lemmas.Bool.Decides.{nat_tests}
use Rattle.std.proofs.lemmas.Nat.Bits.{shr_and_one, bit_at_above, bit_at-zero, bit_at_set_same, bit_at_set_other}
use Rattle.std.specs.Int.{bit_at}
use mir.Val.{bits}

-- ---- What is left of a text, from one position to the next

-- ---- Letters

pub length-with_classes : (points classes : List ℕ) → length classes ≡ length points → length (with_classes points classes) ≡ length points
length-with_classes [] classes same = refl
length-with_classes (c ∷ points) [] same = absurd (omega arith)
length-with_classes (c ∷ points) (k ∷ classes) same = ap suc (length-with_classes points classes (omega arith))

-- the code point at a position
abbrev pub classed_at : NfdText → ℕ → ClassedCodePoint
classed_at s i = record { code = get_or s.points i 0; class = get_or s.classes i 0 }

letters_at : (points classes : List ℕ) (i : ℕ) (d : ClassedCodePoint) → length classes ≡ length points → i < length points →
    get_or (with_classes points classes) i d ≡ record { code = get_or points i 0; class = get_or classes i 0 }
letters_at [] classes i d same within = absurd (omega arith)
letters_at (c ∷ points) [] i d same within = absurd (omega arith)
letters_at (c ∷ points) (k ∷ classes) zero d same within = refl
letters_at (c ∷ points) (k ∷ classes) (suc i) d same within = letters_at points classes i d (omega arith) (omega arith)

pub letters_here : (s : NfdText) (i : ℕ) → length s.classes ≡ length s.points → i < length s.points →
    get_or (classed s) i (classed_at s i) ≡ classed_at s i
letters_here s i same within = letters_at s.points s.classes i (classed_at s i) same within

pub letters_more : (s : NfdText) (i : ℕ) → length s.classes ≡ length s.points → i < length s.points →
    drop i (classed s) ≡ classed_at s i ∷ drop (suc i) (classed s)
letters_more s i same within =
    let there : i < length (classed s) = omega (arith, length-with_classes s.points s.classes same) in
    drop-cons (classed s) i (classed_at s i) there
    ∙ ap (λ c. c ∷ drop (suc i) (classed s)) (letters_at s.points s.classes i (classed_at s i) same within)

pub letters_end : (s : NfdText) (i : ℕ) → length s.classes ≡ length s.points → length s.points ≤ i → drop i (classed s) ≡ []
letters_end s i same past = drop_all i (classed s) (omega (arith, length-with_classes s.points s.classes same))

-- ---- What is left

pub left_same : (g h : ℕ → Bool) (i : ℕ) (t : Text) → ((k : ℕ) → i ≤ k → k < i + length t → g k ≡ h k) → left_from g i t ≡ left_from h i t
left_same g h i [] same = refl
left_same g h i (c ∷ t) same =
    ap (λ b. cond b (left_from g (suc i) t) (c ∷ left_from g (suc i) t)) (same i (omega arith) (omega arith))
    ∙ ap (λ rest. cond (h i) rest (c ∷ rest)) (left_same g h (suc i) t (λ k above below. same k (omega arith) (omega arith)))

pub left-append : (g : ℕ → Bool) (i k : ℕ) (s t : Text) → k ≡ i + length s → left_from g i (s ++ t) ≡ left_from g i s ++ left_from g k t
left-append g i k [] t e = ap (λ j. left_from g j t) (let same : i ≡ k = omega arith in same)
left-append g i k (c ∷ s) t e =
    let more = left-append g (suc i) k s t (omega arith) in
    cond_both (g i) (left_from g (suc i) (s ++ t)) (c ∷ left_from g (suc i) (s ++ t)) (λ all. all ≡ left_from g i (c ∷ s) ++ left_from g k t)
    (λ gone. more ∙ ap (λ front. front ++ left_from g k t) (sym (cond-true (g i) (left_from g (suc i) s) (c ∷ left_from g (suc i) s) gone)))
    (λ kept. ap (λ all. c ∷ all) more ∙ ap (λ front. front ++ left_from g k t)
    (sym (cond-false (g i) (left_from g (suc i) s) (c ∷ left_from g (suc i) s) kept)))

pub left_gone : (s : NfdText) (place : Place) (i : ℕ) → length s.classes ≡ length s.points → i < length s.points → is_gone place i ≡ true →
    left_at s place i ≡ left_at s place (suc i)
left_gone s place i same within gone =
    ap (left_from (is_gone place) i) (letters_more s i same within)
    ∙ cond-true (is_gone place i) (left_at s place (suc i)) (classed_at s i ∷ left_at s place (suc i)) gone

pub left_kept : (s : NfdText) (place : Place) (i : ℕ) → length s.classes ≡ length s.points → i < length s.points → is_gone place i ≡ false →
    left_at s place i ≡ classed_at s i ∷ left_at s place (suc i)
left_kept s place i same within kept =
    ap (left_from (is_gone place) i) (letters_more s i same within)
    ∙ cond-false (is_gone place i) (left_at s place (suc i)) (classed_at s i ∷ left_at s place (suc i)) kept

pub left_end : (s : NfdText) (place : Place) (i : ℕ) → length s.classes ≡ length s.points → length s.points ≤ i → left_at s place i ≡ []
left_end s place i same past = ap (left_from (is_gone place) i) (letters_end s i same past)

pub left_beyond : (s : NfdText) (p q : Place) (i : ℕ) → ((k : ℕ) → i ≤ k → is_gone p k ≡ is_gone q k) → left_at s p i ≡ left_at s q i
left_beyond s p q i same = left_same (is_gone p) (is_gone q) i (drop i (classed s)) (λ k above below. same k above)

pub all_left : (g : ℕ → Bool) → ((k : ℕ) → g k ≡ false) → (i : ℕ) (t : Text) → left_from g i t ≡ t
all_left g none i [] = refl
all_left g none i (c ∷ t) =
    cond-false (g i) (left_from g (suc i) t) (c ∷ left_from g (suc i) t) (none i) ∙ ap (λ rest. c ∷ rest) (all_left g none (suc i) t)

-- ---- Letters that are gone, by the bits of a number

-- a code point before the run is not gone
pub gone_before_run : (place : Place) (i : ℕ) → i < place.run → is_gone place i ≡ false
gone_before_run place i h = let test : nat_le place.run i ≡ false = grind (arith, nat_tests) in
    ap (λ b. b && nat_eq (bit_at place.removed (i - place.run)) 1) test

gone_by_bit : (place : Place) (i : ℕ) → place.run ≤ i → is_gone place i ≡ nat_eq (bit_at place.removed (i - place.run)) 1
gone_by_bit place i h = let test : nat_le place.run i ≡ true = grind (arith, nat_tests) in
    ap (λ b. b && nat_eq (bit_at place.removed (i - place.run)) 1) test

pub gone_far : (place : Place) (i : ℕ) → place.removed < 2 ^ 64 → 64 ≤ i - place.run → is_gone place i ≡ false
gone_far place i fits far =
    gone_by_bit place i (omega arith) ∙ ap (λ bit. nat_eq bit 1) (bit_at_above place.removed 64 (i - place.run) fits far)

pub gone_is : (place : Place) (i : ℕ) → place.run ≤ i → nat_eq (bit_and (place.removed / 2 ^ (i - place.run)) 1) 1 ≡ is_gone place i
gone_is place i h = ap (λ bit. nat_eq bit 1) (shr_and_one place.removed (i - place.run)) ∙ sym (gone_by_bit place i h)

abbrev pub with_gone : Place → ℕ → Place
with_gone place i = record place { removed = bit_or place.removed (1 * 2 ^ (i - place.run) % 2 ^ bits w64) }

pub gone_here : (place : Place) (i : ℕ) → place.run ≤ i → i - place.run < 64 → is_gone (with_gone place i) i ≡ true
gone_here place i after near =
    gone_by_bit (with_gone place i) i after ∙ ap (λ bit. nat_eq bit 1) (bit_at_set_same w64 place.removed (i - place.run) near)

pub gone_elsewhere : (place : Place) (i k : ℕ) → place.run ≤ i → i - place.run < 64 → k ≢ i → is_gone (with_gone place i) k ≡ is_gone place k
gone_elsewhere place i k after near other =
    ⊎_elim
    (λ before. gone_before_run (with_gone place i) k before ∙ sym (gone_before_run place k before))
    (λ from_run.
    let apart : k - place.run ≢ i - place.run = omega arith in
    gone_by_bit (with_gone place i) k from_run
    ∙ ap (λ bit. nat_eq bit 1) (bit_at_set_other w64 place.removed (i - place.run) near (k - place.run) apart)
    ∙ sym (gone_by_bit place k from_run))
    (cases_lt k place.run)

-- no code point is gone
none_gone : (place : Place) (i : ℕ) → place.removed ≡ 0 → is_gone place i ≡ false
none_gone place i none =
    ⊎_elim
    (λ before. gone_before_run place i before)
    (λ from_run. gone_by_bit place i from_run ∙ ap (λ bits. nat_eq (bit_at bits (i - place.run)) 1) none
    ∙ ap (λ bit. nat_eq bit 1) (bit_at-zero (i - place.run)))
    (cases_lt i place.run)

pub not_true : (b : Bool) → (b ≡ true → ⊥) → b ≡ false
not_true true h = absurd (h refl)
not_true false h = refl

-- after its run a position may as well begin a new one
pub left_anew : (s : NfdText) (place new : Place) (at : ℕ) → IsPlace s place → place.end ≤ at → new.removed ≡ 0 → left_at s new at ≡ left_at s place at
left_anew s place new at here past none =
    left_beyond s new place at (λ k after. none_gone new k none
    ∙ sym (not_true (is_gone place k) (λ gone. let before = here.gone_before k gone in omega arith)))

-- from the beginning of a text, nothing is gone
pub left_of_start : (s : NfdText) → left_of s (record { at = 0; run = 0; end = 0; removed = 0 }) ≡ classed s
left_of_start s = all_left (is_gone (record { at = 0; run = 0; end = 0; removed = 0 }))
    (λ i. none_gone (record { at = 0; run = 0; end = 0; removed = 0 }) i refl) 0 (classed s)
