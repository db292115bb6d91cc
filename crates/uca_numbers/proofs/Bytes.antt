-- In UTF-8 the byte of a digit is part of no other code point.
use Rattle.std.proofs.Common.{◌≡◌, ℕ, suc, ◌<◌, ◌≤◌, List, [], ◌∷◌, length, take, drop, get_or, Bool, true, false, ◌||◌, chars, refl, sym, ap, ap₂, ◌∙◌, arith, append-nil, inl, inr}
use Rattle.std.specs.Str.{IsUtf8}
use Rattle.std.proofs.lemmas.Bool.{cases_lt, cases_Bool}
use Rattle.std.proofs.lemmas.Bool.Decides.{nat_tests}
use Rattle.std.proofs.lemmas.List.{take-append-drop}
use Rattle.std.proofs.lemmas.List.Folds.{list_any-append}
use Rattle.std.proofs.lemmas.Str.{encode_ascii, inside_one, encodes-chars}
use lib.Utf8.{encode, encodes}
use Rattle.uca_numbers.specs.Numbers.{is_digit}
use Rattle.uca_numbers.specs.Texts.{has_digit}

none_anywhere : (xs : List ℕ) → ((k : ℕ) → k < length xs → is_digit (get_or xs k 0) ≡ false) → has_digit xs ≡ false
none_anywhere [] none = refl
none_anywhere (x ∷ xs) none =
    ap₂ (λ a b. a || b) (none 0 (omega arith)) (none_anywhere xs (λ k within. none (suc k) (omega (arith, within))))

ascii_only : (c : ℕ) → is_digit c ≡ true → c < 128
ascii_only c is = grind (arith, nat_tests)

no_digit_above : (c : ℕ) → 128 ≤ c → is_digit c ≡ false
no_digit_above c above = grind (arith, nat_tests)

byte_of_other : (c k : ℕ) → 128 ≤ c → k < length (encode c) → is_digit (get_or (encode c) k 0) ≡ false
byte_of_other c k above within = elim (cases_Bool (is_digit (get_or (encode c) k 0))) [
  | inl is ↦
      let small : get_or (encode c) k 0 < 128 = ascii_only (get_or (encode c) k 0) is in
      let same : c ≡ get_or (encode c) k 0 = inside_one c [] (encode c) k (sym (append-nil (encode c))) within small in
      absurd (omega (arith, small, same, above))
  | inr is_not ↦ is_not
]

or_nothing : (b : Bool) → (b || false) ≡ b
or_nothing true = refl
or_nothing false = refl

digit_of_char : (c : ℕ) → has_digit (encode c) ≡ is_digit c
digit_of_char c = elim (cases_lt c 128) [
  | inl small ↦ ap has_digit (encode_ascii c small) ∙ or_nothing (is_digit c)
  | inr above ↦ none_anywhere (encode c) (λ k within. byte_of_other c k above within) ∙ sym (no_digit_above c above)
]

digits_of_chars : (cs : List ℕ) → has_digit (encodes cs) ≡ has_digit cs
digits_of_chars [] = refl
digits_of_chars (c ∷ cs) =
    list_any-append is_digit (encode c) (encodes cs) ∙ ap₂ (λ a b. a || b) (digit_of_char c) (digits_of_chars cs)

-- the front of some bytes, and what comes after it
pub front_and_more : (n : ℕ) (bytes front more : List ℕ) → front ≡ take n bytes → more ≡ drop n bytes → has_digit bytes ≡ (has_digit front || has_digit more)
front_and_more n bytes front more front_is more_is =
    ap has_digit (sym (take-append-drop n bytes))
    ∙ list_any-append is_digit (take n bytes) (drop n bytes)
    ∙ ap₂ (λ a b. has_digit a || has_digit b) (sym front_is) (sym more_is)

pub digits_of_bytes : (bs : List ℕ) → IsUtf8 bs → has_digit bs ≡ has_digit (chars bs)
digits_of_bytes bs utf8 = ap has_digit (sym (encodes-chars bs utf8)) ∙ digits_of_chars (chars bs)
