-- Digits of a number that is divided once for each.
use Rattle.std.proofs.Common.{◌≡◌, ℕ, ◌-◌, ◌/◌, ◌%◌, Bool, true, false, List, [], ◌∷◌, take, drop, refl, ap, ◌∙◌}
use Rattle.std.specs.Prelude.{nat_lt}
use Rattle.std.proofs.Math.Nat.{div-div-eq-div-mul}
use Rattle.uca_lines.specs.Numbers.{upper_digit, digits, point_width}

-- divided two, three, four and five times
two : (n : ℕ) → n / 16 / 16 ≡ n / 0x100
two n = div-div-eq-div-mul n 16 16

three : (n : ℕ) → n / 16 / 16 / 16 ≡ n / 0x1000
three n = ap (λ m. m / 16) (two n) ∙ div-div-eq-div-mul n 0x100 16

four : (n : ℕ) → n / 16 / 16 / 16 / 16 ≡ n / 0x1_0000
four n = ap (λ m. m / 16) (three n) ∙ div-div-eq-div-mul n 0x1000 16

five : (n : ℕ) → n / 16 / 16 / 16 / 16 / 16 ≡ n / 0x10_0000
five n = ap (λ m. m / 16) (four n) ∙ div-div-eq-div-mul n 0x1_0000 16

-- the last digit of a number
abbrev pub last_digit : ℕ → ℕ
last_digit n = upper_digit (n % 16)

-- the last four digits, and then five and six
pub four_digits_are : (n : ℕ) → digits 4 n ≡ last_digit (n / 0x1000) ∷ last_digit (n / 0x100) ∷ last_digit (n / 16) ∷ last_digit n ∷ []
unfolding digits
four_digits_are n = rw (three n, two n) refl

pub five_digits_are : (n : ℕ) → digits 5 n ≡ last_digit (n / 0x1_0000) ∷ last_digit (n / 0x1000) ∷ last_digit (n / 0x100) ∷ last_digit (n / 16) ∷
    last_digit n ∷ []
unfolding digits
five_digits_are n = rw (four n, three n, two n) refl

pub six_digits_are : (n : ℕ) → digits 6 n ≡ last_digit (n / 0x10_0000) ∷ last_digit (n / 0x1_0000) ∷ last_digit (n / 0x1000) ∷ last_digit
    (n / 0x100) ∷ last_digit (n / 16) ∷ last_digit n ∷ []
unfolding digits
six_digits_are n = rw (five n, four n, three n, two n) refl

-- the digits of a code point are the last four, five or six of six
pub point_digits_are : (c first : ℕ) (six : List ℕ) → first ≡ 6 - point_width c → six ≡ digits 6 c → take (6 - first) (drop first six) ≡ digits (point_width c) c
point_digits_are c first six h e = cases (nat_lt c 0x1_0000) refl (nat_lt c 0x10_0000) refl
  where
    cases : (a : Bool) → nat_lt c 0x1_0000 ≡ a → (b : Bool) → nat_lt c 0x10_0000 ≡ b → take (6 - first) (drop first six) ≡ digits (point_width c) c
    cases true p b q = rw (h, e, p, six_digits_are c, four_digits_are c) refl
    cases false p true q = rw (h, e, p, q, six_digits_are c, five_digits_are c) refl
    cases false p false q = rw (h, e, p, q, six_digits_are c) refl
