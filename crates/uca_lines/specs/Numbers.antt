-- Numbers in texts: hexadecimal in upper-case digits, and classes in decimal.
use Rattle.std.specs.Prelude.{ℕ, zero, suc, ◌+◌, ◌/◌, ◌%◌, Bool, ◌&&◌, ◌||◌, ◌==◌, not, nat_lt, nat_le, List, [], ◌∷◌, ◌++◌, length, Option, Some, None, if◌then◌else◌, slice_index}
use Rattle.std.specs.List.{list_all}
use lib.Utf8.{scalar}
use Rattle.std.specs.Str.Parse.{digits_value}

abbrev pub is_decimal_digit : ℕ → Bool
is_decimal_digit b = nat_le 48 b && nat_le b 57

abbrev pub is_hex_digit : ℕ → Bool
is_hex_digit b = is_decimal_digit b || (nat_le 65 b && nat_le b 70)

-- the number that a text of digits stands for
abbrev pub number_of : (ℕ → Bool) → ℕ → List ℕ → Option ℕ
number_of is_digit radix text = if list_all is_digit text then Some (digits_value radix text) else None

abbrev pub hex_of : List ℕ → Option ℕ
hex_of text = number_of is_hex_digit 16 text

abbrev pub decimal_of : List ℕ → Option ℕ
decimal_of text = number_of is_decimal_digit 10 text

-- four to six digits, for a code point that is no surrogate
abbrev pub is_code_point : List ℕ → Bool
is_code_point word = nat_le 4 (length word) && nat_le (length word) 6 && list_all is_hex_digit word && scalar (digits_value 16 word)

abbrev pub code_point_of : List ℕ → Option ℕ
code_point_of word = if is_code_point word then Some (digits_value 16 word) else None

-- four digits
abbrev pub weight_of : List ℕ → Option ℕ
weight_of word = if length word == 4 then hex_of word else None

-- a class, 1 to 254: one to three decimal digits, and the first digit is not 0
abbrev pub is_class : List ℕ → Bool
is_class word = nat_le (length word) 3 && list_all is_decimal_digit word && not (slice_index word 0 == 48) && nat_le 1 (digits_value 10 word) && nat_le (digits_value 10 word) 254

abbrev pub class_of : List ℕ → Option ℕ
class_of word = if is_class word then Some (digits_value 10 word) else None

-- the digit for a number below 16
abbrev pub upper_digit : ℕ → ℕ
upper_digit d = if nat_lt d 10 then 48 + d else 55 + d

-- the last k digits of a number
unfoldable pub digits : ℕ → ℕ → List ℕ
digits zero n = []
digits (suc k) n = digits k (n / 16) ++ upper_digit (n % 16) ∷ []

-- how many digits a code point is written with: four, or as many as it needs
abbrev pub point_width : ℕ → ℕ
point_width c = if nat_lt c 0x1_0000 then 4 else (if nat_lt c 0x10_0000 then 5 else 6)
