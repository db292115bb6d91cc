-- Numbers of ASCII digits, and their codes, which rise as the values do: 7 has the code 17, 42 has 242, and 007 has 17.
use Rattle.std.specs.Prelude.{ℕ, ◌+◌, ◌*◌, ◌-◌, ◌/◌, ◌%◌, ◌^◌, ◌≤◌, List, [], ◌∷◌, ◌++◌, length, replicate, Bool, ◌&&◌, nat_eq, nat_le, if◌then◌else◌}
use Rattle.std.specs.List.{AllByRecursion}

-- ---- Numbers

-- a code point from U+0030 to U+0039
pub record IsDigit (c : ℕ) : Type 0 where
  pub low : 0x30 ≤ c
  pub high : c ≤ 0x39

abbrev pub is_digit : ℕ → Bool
is_digit c = nat_le 0x30 c && nat_le c 0x39

-- a number has digits alone, and at least one
abbrev pub IsNumber : List ℕ → Type 0
IsNumber [] = ⊥
IsNumber (c ∷ more) = AllByRecursion IsDigit (c ∷ more)

-- the value of digits in base ten
abbrev pub value : List ℕ → ℕ
value [] = 0
value (c ∷ more) = (c - 0x30) * 10 ^ length more + value more

-- ---- Codes

-- a number without leading zeros: the last digit stays, also if it is a zero
abbrev pub significant : List ℕ → List ℕ
significant [] = []
significant (c ∷ []) = c ∷ []
significant (c ∷ d ∷ more) = if nat_eq c 0x30 then significant (d ∷ more) else c ∷ d ∷ more

-- Digits for a length from 1 on. Lengths up to 8 are 1 to 8, and then come 91 to 98, 991 to 998 and so on.
abbrev pub length_code : ℕ → List ℕ
length_code n = replicate ((n - 1) / 8) 0x39 ++ (0x31 + (n - 1) % 8) ∷ []

-- the code of a number: how many digits it has without leading zeros, and these digits
abbrev pub number_code : List ℕ → List ℕ
number_code [] = []
number_code (c ∷ more) = length_code (length (significant (c ∷ more))) ++ significant (c ∷ more)
