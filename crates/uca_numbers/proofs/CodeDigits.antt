-- The code of a number has digits alone, and at least one.
use Rattle.std.proofs.Common.{◌≡◌, ℕ, zero, suc, ◌+◌, ◌-◌, ◌/◌, ◌%◌, List, [], ◌∷◌, ◌++◌, length, replicate, refl, sym, subst, arith}
use Rattle.std.specs.List.{AllByRecursion}
use Rattle.uca_numbers.specs.Numbers.{IsDigit, IsNumber, significant, length_code, number_code}
use Rattle.uca_numbers.proofs.Values.{trimmed}

pub each_of_both : {X : Type 0} (P : X → Type 0) (xs ys : List X) → AllByRecursion P xs → AllByRecursion P ys → AllByRecursion P (xs ++ ys)
each_of_both P [] ys first second = second
each_of_both P (x ∷ xs) ys first second = (first.0, each_of_both P xs ys first.1 second)

nines_are_digits : (k : ℕ) → AllByRecursion IsDigit (replicate k 0x39)
nines_are_digits zero = tt
nines_are_digits (suc k) = (record { low = omega arith; high = omega arith }, nines_are_digits k)

length_digits : (n : ℕ) → AllByRecursion IsDigit (length_code n)
length_digits n =
    each_of_both IsDigit (replicate ((n - 1) / 8) 0x39) ((0x31 + (n - 1) % 8) ∷ []) (nines_are_digits ((n - 1) / 8))
    (record { low = omega arith; high = omega arith }, tt)

-- digits, at least one
pub record AreDigits (code : List ℕ) : Type 0 where
  pub first : ℕ
  pub more : List ℕ
  pub same : code ≡ first ∷ more
  pub all : AllByRecursion IsDigit (first ∷ more)

some_digits : (code : List ℕ) → (code ≡ [] → ⊥) → AllByRecursion IsDigit code → AreDigits code
some_digits [] some all = absurd (some refl)
some_digits (d ∷ digits) some all = record { first = d; more = digits; same = refl; all = all }

not_empty : (k d : ℕ) (digits : List ℕ) → (replicate k 0x39 ++ d ∷ []) ++ digits ≡ [] → ⊥
not_empty zero d digits none = cc
not_empty (suc k) d digits none = cc

pub code_digits : (number : List ℕ) → IsNumber number → AreDigits (number_code number)
code_digits [] is = absurd is
code_digits (c ∷ more) is =
    let digits = trimmed c more is in
    let last = significant (c ∷ more) in
    some_digits (number_code (c ∷ more)) (not_empty ((length last - 1) / 8) (0x31 + (length last - 1) % 8) last)
    (each_of_both IsDigit (length_code (length last)) last (length_digits (length last)) (subst (AllByRecursion IsDigit) (sym digits.same) digits.all))
