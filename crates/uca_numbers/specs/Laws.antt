-- What is true of numbers and their codes.
use Rattle.std.specs.Prelude.{◌≡◌, ◌↔◌, ℕ, ◌<◌, List, ◌++◌, map, false}
use Rattle.std.specs.Ordering.{nat_cmp, ordering_then}
use Rattle.std.specs.Cmp.Lexicographic.{slice_cmp}
use Rattle.uca_numbers.specs.Numbers.{IsDigit, IsNumber, value, number_code}
use Rattle.uca_numbers.specs.Texts.{by_value, has_digit, IsNumberBetween}

-- a greater digit has a greater weight
abbrev pub RisesOnDigits : (ℕ → ℕ) → Type 0
RisesOnDigits weight = (c d : ℕ) → IsDigit c → IsDigit d → c < d → weight c < weight d

-- Over weights that rise on the ten digits, the codes of two numbers compare by the values, whatever comes after them.
-- Where the values are equal, what comes after them decides.
abbrev pub NumbersCompareByValue : Type 0
NumbersCompareByValue = (weight : ℕ → ℕ) → RisesOnDigits weight → (a b s t : List ℕ) → IsNumber a → IsNumber b →
    slice_cmp nat_cmp (map weight (number_code a) ++ s) (map weight (number_code b) ++ t)
    ≡ ordering_then (nat_cmp (value a) (value b)) (slice_cmp nat_cmp s t)

-- two numbers have one code exactly if their values are equal
abbrev pub EqualNumbersHaveOneCode : Type 0
EqualNumbersHaveOneCode = (a b : List ℕ) → IsNumber a → IsNumber b → (number_code a ≡ number_code b) ↔ (value a ≡ value b)

-- Each number becomes its code, and nothing else changes.
pub record CodesStandForNumbers : Type 0 where
  pub number : (front number rest : List ℕ) → IsNumberBetween front number rest →
      by_value (front ++ (number ++ rest)) ≡ by_value front ++ (number_code number ++ by_value rest)
  pub other : (points : List ℕ) → has_digit points ≡ false → by_value points ≡ points
