-- Each number of a text becomes its code, and nothing else changes.
use Rattle.std.proofs.Common.{◌≡◌, ℕ, ◌≤◌, List, [], ◌∷◌, ◌++◌, Bool, true, false, not, cond, refl, sym, ap, ◌∙◌, arith, append_assoc, append-nil, inl, inr}
use Rattle.std.specs.Bool.{OnTrue}
use Rattle.std.specs.List.{AllByRecursion}
use Rattle.std.proofs.lemmas.Bool.Decides.{nat_tests}
use Rattle.std.proofs.lemmas.Bool.{cases_Bool}
use Rattle.uca_numbers.specs.Numbers.{IsDigit, is_digit, IsNumber, number_code}
use Rattle.uca_numbers.specs.Texts.{by_value, by_value_after, has_digit, BeginsWithoutDigit, EndsWithoutDigit}
use Rattle.uca_numbers.specs.Laws.{CodesStandForNumbers}

-- ---- The test of digits

pub digit_test : (c : ℕ) → IsDigit c → is_digit c ≡ true
digit_test c digit =
    let low : 0x30 ≤ c = digit.low in
    let high : c ≤ 0x39 = digit.high in
    grind (arith, nat_tests)

pub digit_from_test : (c : ℕ) → is_digit c ≡ true → IsDigit c
digit_from_test c is = record { low = grind (arith, nat_tests); high = grind (arith, nat_tests) }

pub no_digit_test : (c : ℕ) → ¬ (IsDigit c) → is_digit c ≡ false
no_digit_test c none = elim (cases_Bool (is_digit c)) [
  | inl is ↦ absurd (none (digit_from_test c is))
  | inr is_not ↦ is_not
]

-- ---- One code point

pub after_digit : (number : List ℕ) (c : ℕ) (more : List ℕ) → is_digit c ≡ true → by_value_after number (c ∷ more) ≡ by_value_after (number ++ c ∷ []) more
after_digit number c more is = ap (λ b. cond b (by_value_after (number ++ c ∷ []) more) (number_code number ++ c ∷ by_value more)) is

pub after_other : (number : List ℕ) (c : ℕ) (more : List ℕ) → is_digit c ≡ false → by_value_after number (c ∷ more) ≡ number_code number ++ c ∷ by_value more
after_other number c more is_not = ap (λ b. cond b (by_value_after (number ++ c ∷ []) more) (number_code number ++ c ∷ by_value more)) is_not

-- ---- A text in pieces

-- all digits belong to the number
through_digits : (number digits rest : List ℕ) → AllByRecursion IsDigit digits → by_value_after number (digits ++ rest) ≡ by_value_after (number ++ digits) rest
through_digits number [] rest all = ap (λ n. by_value_after n rest) (sym (append-nil number))
through_digits number (c ∷ digits) rest all =
    after_digit number c (digits ++ rest) (digit_test c all.0)
    ∙ through_digits (number ++ c ∷ []) digits rest all.1
    ∙ ap (λ n. by_value_after n rest) (append_assoc number (c ∷ []) digits)

-- the number ends there
number_ends : (number rest : List ℕ) → BeginsWithoutDigit rest → by_value_after number rest ≡ number_code number ++ by_value rest
number_ends number [] other = sym (append-nil (number_code number))
number_ends number (c ∷ rest) other =
    let test : is_digit c ≡ false = no_digit_test c other in
    after_other number c rest test ∙ ap (λ l. number_code number ++ l) (sym (after_other [] c rest test))

-- and so what follows is a text of its own
front_apart : (number : List ℕ) (c : ℕ) (front rest : List ℕ) → EndsWithoutDigit (c ∷ front) →
    by_value_after number ((c ∷ front) ++ rest) ≡ by_value_after number (c ∷ front) ++ by_value rest
front_apart number c [] rest ends =
    let test : is_digit c ≡ false = no_digit_test c ends in
    after_other number c rest test
    ∙ sym (append_assoc (number_code number) (c ∷ []) (by_value rest))
    ∙ ap (λ l. l ++ by_value rest) (sym (after_other number c [] test))
front_apart number c (d ∷ front) rest ends = elim (cases_Bool (is_digit c)) [
  | inl is ↦
      after_digit number c ((d ∷ front) ++ rest) is
      ∙ front_apart (number ++ c ∷ []) d front rest ends
      ∙ ap (λ l. l ++ by_value rest) (sym (after_digit number c (d ∷ front) is))
  | inr is_not ↦
      after_other number c ((d ∷ front) ++ rest) is_not
      ∙ ap (λ l. number_code number ++ c ∷ l) (front_apart [] d front rest ends)
      ∙ sym (append_assoc (number_code number) (c ∷ by_value (d ∷ front)) (by_value rest))
      ∙ ap (λ l. l ++ by_value rest) (sym (after_other number c (d ∷ front) is_not))
]

pub pieces : (front rest : List ℕ) → EndsWithoutDigit front → by_value (front ++ rest) ≡ by_value front ++ by_value rest
pieces [] rest ends = refl
pieces (c ∷ front) rest ends = front_apart [] c front rest ends

number_digits : (number : List ℕ) → IsNumber number → AllByRecursion IsDigit number
number_digits [] is = absurd is
number_digits (c ∷ more) is = is

no_digits_stay : (points : List ℕ) → has_digit points ≡ false → by_value points ≡ points
no_digits_stay [] none = refl
no_digits_stay (c ∷ points) none = elim (cases_Bool (is_digit c)) [
  | inl is ↦ absurd (grind (arith, nat_tests, is, none))
  | inr is_not ↦ after_other [] c points is_not ∙ ap (λ l. c ∷ l) (no_digits_stay points (grind (arith, nat_tests, is_not, none)))
]

pub codes_stand : CodesStandForNumbers
codes_stand = record {
  number = λ front number rest between.
      pieces front (number ++ rest) between.ends
      ∙ ap (λ l. by_value front ++ l) (through_digits [] number rest (number_digits number between.is_number) ∙ number_ends number rest between.begins);
  other = no_digits_stay;
}

-- a text without digits stays as it is
pub without_digits : (has : Bool) (points : List ℕ) → has ≡ has_digit points → OnTrue (not has) (by_value points ≡ points)
without_digits true points is = tt
without_digits false points is = codes_stand.other points (sym is)
