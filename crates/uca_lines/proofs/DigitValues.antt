-- The number of some bytes is that of their digits, or more if one of them is no digit.
use Rattle.std.proofs.Common.{◌≡◌, ℕ, zero, suc, ◌+◌, ◌*◌, ◌^◌, ◌<◌, ◌≤◌, Bool, true, false, List, [], ◌∷◌, map, length, get_or, Some, None, refl, ap, sym, ◌∙◌, arith, lit≤}
use Rattle.std.specs.List.{list_all, range_with_len}
use Rattle.std.specs.Option.{unwrap_or}
use Rattle.std.specs.Char.{digit_value}
use Rattle.std.specs.Str.Parse.{digits_value, digits_value_after}
use Rattle.std.proofs.lemmas.Bool.{and_parts}
use Rattle.std.proofs.lemmas.List.FromFn.{get_or-map-range_with_len}
use Rattle.uca_lines.specs.Numbers.{is_hex_digit, number_of, hex_of}
use Rattle.uca_lines.specs.inside.DigitValues.{value_or_more, number_or_more}
use Rattle.uca_lines.specs.declared.fields.numbers.TheConstants.{VALUES}
use Rattle.uca_lines.proofs.DigitLemmas.{hex_takes, hex_digit_small}

-- ---- The table

table_is : VALUES ≡ map value_or_more (range_with_len 0 256)
unfolding value_or_more
table_is = refl

pub value_in_table : (byte : ℕ) → byte < 256 → get_or VALUES byte 0 ≡ value_or_more byte
value_in_table byte h = ap (λ t. get_or t byte 0) table_is ∙ get_or-map-range_with_len value_or_more 0 256 byte byte 0 h (omega arith)

-- ---- One byte

value_is : (p : ℕ → Bool) (x m : ℕ) → p x ≡ true → unwrap_or (number_of p 16 (x ∷ [])) m ≡ digit_value x
value_is p x m h = rw h (omega arith)

value_is_not : (p : ℕ → Bool) (x m : ℕ) → p x ≡ false → unwrap_or (number_of p 16 (x ∷ [])) m ≡ m
value_is_not p x m h = rw h refl

digit : (x : ℕ) → is_hex_digit x ≡ true → value_or_more x ≡ digit_value x
unfolding value_or_more
digit x h = value_is is_hex_digit x 0x100_0000 h

no_digit : (x : ℕ) → is_hex_digit x ≡ false → value_or_more x ≡ 0x100_0000
unfolding value_or_more
no_digit x h = value_is_not is_hex_digit x 0x100_0000 h

-- ---- Some bytes

number-le : (n : ℕ) (xs : List ℕ) → n ≤ number_or_more n xs
unfolding number_or_more
number-le n [] = omega arith
number-le n (x ∷ xs) = omega (arith, number-le (n * 16 + value_or_more x) xs)

number_of_digits : (n : ℕ) (xs : List ℕ) → list_all is_hex_digit xs ≡ true → number_or_more n xs ≡ digits_value_after 16 n xs
unfolding number_or_more
number_of_digits n [] h = refl
number_of_digits n (x ∷ xs) h =
    let both = and_parts _ _ h in
    ap (λ v. number_or_more (n * 16 + v) xs) (digit x both.0) ∙ number_of_digits (n * 16 + digit_value x) xs both.1

number_of_others : (n : ℕ) (xs : List ℕ) → list_all is_hex_digit xs ≡ false → 0x100_0000 ≤ number_or_more n xs
unfolding number_or_more
number_of_others n [] h = cc
number_of_others n (x ∷ xs) h = cases (is_hex_digit x) refl (number_of_others (n * 16 + value_or_more x) xs)
  where
    cases : (b : Bool) → is_hex_digit x ≡ b → (list_all is_hex_digit xs ≡ false → 0x100_0000 ≤ number_or_more (n * 16 + value_or_more x) xs)
        → 0x100_0000 ≤ number_or_more (n * 16 + value_or_more x) xs
    cases true e rest = rest (rw e at h)
    cases false e rest = omega (arith, no_digit x e, number-le (n * 16 + value_or_more x) xs)

pow_within : (k : ℕ) → k ≤ 6 → 16 ^ k ≤ 0x100_0000
pow_within zero h = lit≤ tt
pow_within (suc zero) h = lit≤ tt
pow_within (suc (suc zero)) h = lit≤ tt
pow_within (suc (suc (suc zero))) h = lit≤ tt
pow_within (suc (suc (suc (suc zero)))) h = lit≤ tt
pow_within (suc (suc (suc (suc (suc zero))))) h = lit≤ tt
pow_within (suc (suc (suc (suc (suc (suc zero)))))) h = lit≤ tt
pow_within (suc (suc (suc (suc (suc (suc (suc k))))))) h = absurd (omega arith)

-- a number that is small enough is read
pub hex_read : (word : List ℕ) → number_or_more 0 word < 0x100_0000 → hex_of word ≡ Some (number_or_more 0 word)
hex_read word small = cases (list_all is_hex_digit word) refl
  where
    cases : (b : Bool) → list_all is_hex_digit word ≡ b → hex_of word ≡ Some (number_or_more 0 word)
    cases true e = rw (e, number_of_digits 0 word e) refl
    cases false e = absurd (omega (arith, number_of_others 0 word e))

-- another is not
pub hex_not_read : (word : List ℕ) → length word ≤ 6 → 0x100_0000 ≤ number_or_more 0 word → hex_of word ≡ None
hex_not_read word few large = cases (list_all is_hex_digit word) refl
  where
    cases : (b : Bool) → list_all is_hex_digit word ≡ b → hex_of word ≡ None
    cases false e = rw e refl
    cases true e =
        let read : hex_of word ≡ Some (digits_value 16 word) = rw e refl in
        let below = (hex_takes (length word) word _ refl read).1 in
        absurd (omega (arith, below, pow_within (length word) few, number_of_digits 0 word e))

-- a number that is read is below 16 to the number of its digits
pub hex-lt : (word : List ℕ) (n : ℕ) → hex_of word ≡ Some n → n < 16 ^ length word
hex-lt word n h = (hex_takes (length word) word n refl h).1

two_values : (a b : ℕ) → number_or_more 0 (a ∷ b ∷ []) ≡ value_or_more a * 16 + value_or_more b
unfolding number_or_more
two_values a b = omega arith

-- two digits are a byte
pub digits_read : (a b n : ℕ) → n ≡ value_or_more a * 16 + value_or_more b → n < 0x100_0000 → (Some n ≡ hex_of (a ∷ b ∷ [])) × (n < 256)
digits_read a b n is small =
    let same : number_or_more 0 (a ∷ b ∷ []) ≡ n = two_values a b ∙ sym is in
    let read : hex_of (a ∷ b ∷ []) ≡ Some n = hex_read (a ∷ b ∷ []) (omega (arith, same)) ∙ ap (λ m. Some m) same in
    (sym read, hex-lt (a ∷ b ∷ []) n read)

-- two bytes, at least one of them no digit
pub no_digits_read : (a b n : ℕ) → n ≡ value_or_more a * 16 + value_or_more b → 0x100_0000 ≤ n → None ≡ hex_of (a ∷ b ∷ [])
no_digits_read a b n is large = sym (hex_not_read (a ∷ b ∷ []) (omega arith) (omega (arith, two_values a b, is)))

-- no value is greater than that of a byte that is no digit
pub value-le : (x : ℕ) → value_or_more x ≤ 0x100_0000
value-le x = cases (is_hex_digit x) refl
  where
    cases : (b : Bool) → is_hex_digit x ≡ b → value_or_more x ≤ 0x100_0000
    cases true e = omega (arith, digit x e, hex_digit_small x e)
    cases false e = omega (arith, no_digit x e)

-- ---- Bytes by their positions

pub five_values : (xs : List ℕ) → length xs ≡ 5
    → number_or_more 0 (get_or xs 0 0 ∷ get_or xs 1 0 ∷ get_or xs 2 0 ∷ get_or xs 3 0 ∷ []) * 16 + value_or_more (get_or xs 4 0) ≡ number_or_more 0 xs
unfolding number_or_more
five_values [] h = absurd (omega arith)
five_values (a ∷ []) h = absurd (omega arith)
five_values (a ∷ b ∷ []) h = absurd (omega arith)
five_values (a ∷ b ∷ c ∷ []) h = absurd (omega arith)
five_values (a ∷ b ∷ c ∷ d ∷ []) h = absurd (omega arith)
five_values (a ∷ b ∷ c ∷ d ∷ e ∷ []) h = refl
five_values (a ∷ b ∷ c ∷ d ∷ e ∷ f ∷ xs) h = absurd (omega arith)

pub six_values : (xs : List ℕ) → length xs ≡ 6
    → (number_or_more 0 (get_or xs 0 0 ∷ get_or xs 1 0 ∷ get_or xs 2 0 ∷ get_or xs 3 0 ∷ []) * 16 + value_or_more (get_or xs 4 0)) * 16
    + value_or_more (get_or xs 5 0) ≡ number_or_more 0 xs
unfolding number_or_more
six_values [] h = absurd (omega arith)
six_values (a ∷ []) h = absurd (omega arith)
six_values (a ∷ b ∷ []) h = absurd (omega arith)
six_values (a ∷ b ∷ c ∷ []) h = absurd (omega arith)
six_values (a ∷ b ∷ c ∷ d ∷ []) h = absurd (omega arith)
six_values (a ∷ b ∷ c ∷ d ∷ e ∷ []) h = absurd (omega arith)
six_values (a ∷ b ∷ c ∷ d ∷ e ∷ f ∷ []) h = refl
six_values (a ∷ b ∷ c ∷ d ∷ e ∷ f ∷ g ∷ xs) h = absurd (omega arith)
