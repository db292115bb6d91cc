-- Texts in which each number is its code: a7 is written a17, and 1.10 is written 11.210.
use Rattle.std.specs.Prelude.{ℕ, List, [], ◌∷◌, ◌++◌, Bool, ⊤, if◌then◌else◌}
use Rattle.std.specs.List.{list_any}
use Rattle.uca_numbers.specs.Numbers.{IsDigit, is_digit, IsNumber, number_code}

-- A text that comes after the digits of a number, which go on in it as far as they can. Of no digits the code is empty.
abbrev pub by_value_after : List ℕ → List ℕ → List ℕ
by_value_after number [] = number_code number
by_value_after number (c ∷ more) =
    if is_digit c then by_value_after (number ++ c ∷ []) more else number_code number ++ c ∷ by_value_after [] more

-- a text, by its code points, with the code of each number in place of it
abbrev pub by_value : List ℕ → List ℕ
by_value points = by_value_after [] points

abbrev pub has_digit : List ℕ → Bool
has_digit points = list_any is_digit points

-- no number goes on at the front of the text
abbrev pub BeginsWithoutDigit : List ℕ → Type 0
BeginsWithoutDigit [] = ⊤
BeginsWithoutDigit (c ∷ more) = ¬ (IsDigit c)

-- nor at its end
abbrev pub EndsWithoutDigit : List ℕ → Type 0
EndsWithoutDigit [] = ⊤
EndsWithoutDigit (c ∷ []) = ¬ (IsDigit c)
EndsWithoutDigit (c ∷ d ∷ more) = EndsWithoutDigit (d ∷ more)

-- a number with all its digits, between what comes before it in a text and what comes after it
pub record IsNumberBetween (front number rest : List ℕ) : Type 0 where
  pub ends : EndsWithoutDigit front
  pub is_number : IsNumber number
  pub begins : BeginsWithoutDigit rest
