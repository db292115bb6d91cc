-- The number that digits stand for, hexadecimal or decimal, and the digits of a number: each gives the other.
use Rattle.std.proofs.Common.{◌≡◌, ℕ, zero, suc, ◌+◌, ◌*◌, ◌/◌, ◌%◌, ◌^◌, ◌<◌, ◌≤◌, Bool, true, false, List, [], ◌∷◌, ◌++◌, length, get_or, take, Some, None, refl, ap, sym, subst, ◌==◌, ◌∙◌, arith, add-one, length-append, lit≤, lit<}
use Rattle.std.proofs.Math.Nat.{pow-suc}
use borrow.Author.Tests.{eqb-true}
use Rattle.std.specs.List.{list_all}
use Rattle.std.specs.Char.{digit_value}
use Rattle.std.specs.Str.Parse.{digits_value}
use Rattle.std.proofs.lemmas.Int.Digits.{digits_value_push, digits_value_more}
use Rattle.std.proofs.lemmas.List.Folds.{list_all-append, list_all_more}
use Rattle.std.proofs.lemmas.Nat.{div-mul-add, mod-mul-add}
use Rattle.std.proofs.lemmas.Bool.{and_parts}
use Rattle.std.proofs.lemmas.Bool.Decides.{nat_tests}
use Rattle.uca_weights.proofs.NumberLemmas.{grows}
use Rattle.uca_lines.specs.Numbers.{is_decimal_digit, is_hex_digit, number_of, hex_of, decimal_of, weight_of, upper_digit, digits}
use Rattle.uca_lines.proofs.FieldLemmas.{before_last}

-- a number that is read is that of digits
pub record IsNumber (p : ℕ → Bool) (radix : ℕ) (text : List ℕ) (n : ℕ) : Type 0 where
  pub all : list_all p text ≡ true
  pub value : digits_value radix text ≡ n

pub number_is : (p : ℕ → Bool) (radix : ℕ) (text : List ℕ) (n : ℕ) → number_of p radix text ≡ Some n → IsNumber p radix text n
number_is p radix text n h = cases (list_all p text) refl
  where
    cases : (b : Bool) → list_all p text ≡ b → IsNumber p radix text n
    cases true e = record { all = e; value = (let k = rw e at h in cc) }
    cases false e = let k = rw e at h in cc

pub is_number : (p : ℕ → Bool) (radix : ℕ) (text : List ℕ) (n : ℕ) → IsNumber p radix text n → number_of p radix text ≡ Some n
is_number p radix text n h = rw (h.all, h.value) refl

digit_is : (p : ℕ → Bool) (radix x d : ℕ) → number_of p radix (x ∷ []) ≡ Some d → (p x ≡ true) × (digit_value x ≡ d)
digit_is p radix x d h = cases (p x) refl
  where
    cases : (b : Bool) → p x ≡ b → (p x ≡ true) × (digit_value x ≡ d)
    cases true e = let k = rw e at h in (e, (let v : 0 * radix + digit_value x ≡ d = cc in omega arith))
    cases false e = let k = rw e at h in cc

no_digit : (p : ℕ → Bool) (radix x : ℕ) → number_of p radix (x ∷ []) ≡ None → p x ≡ false
no_digit p radix x h = cases (p x) refl
  where
    cases : (b : Bool) → p x ≡ b → p x ≡ false
    cases false e = e
    cases true e = let k = rw e at h in cc

-- one more digit
pub number_more : (p : ℕ → Bool) (radix : ℕ) (xs : List ℕ) (i n d : ℕ) → i < length xs → number_of p radix (take i xs) ≡ Some n → number_of p radix (get_or xs i 0 ∷ []) ≡ Some d → number_of p radix (take (i + 1) xs) ≡ Some (n * radix + d)
number_more p radix xs i n d small h k =
    let front = number_is p radix (take i xs) n h in
    let last = digit_is p radix (get_or xs i 0) d k in
    is_number p radix (take (i + 1) xs) (n * radix + d) (record {
      all = list_all_more p xs i 0 small ∙ rw (front.all, last.0) refl;
      value = digits_value_more radix xs i small ∙ rw (front.value, last.1) refl;
    })

pub hex_digit_small : (x : ℕ) → is_hex_digit x ≡ true → digit_value x < 16
hex_digit_small x h = grind (arith, nat_tests)

decimal_digit_small : (x : ℕ) → is_decimal_digit x ≡ true → digit_value x < 10
decimal_digit_small x h = grind (arith, nat_tests)

pub decimal_small : (x d : ℕ) → decimal_of (x ∷ []) ≡ Some d → d < 10
decimal_small x d h = let k = digit_is is_decimal_digit 10 x d h in rw (← k.1) (decimal_digit_small x k.0)

pow_ten : (i : ℕ) → i < 3 → 10 ^ i ≤ 100
pow_ten zero h = lit≤ tt
pow_ten (suc zero) h = lit≤ tt
pow_ten (suc (suc zero)) h = lit≤ tt
pow_ten (suc (suc (suc i))) h = absurd (omega arith)

pub decimal_fits : (n i : ℕ) → n < 10 ^ i → i < 3 → n < 100
decimal_fits n i h k = omega (arith, h, pow_ten i k)

-- ---- A number and its digits

value_upper_hex : (x : ℕ) → is_hex_digit x ≡ true → upper_digit (digit_value x) ≡ x
value_upper_hex x h = grind (arith, nat_tests)

is_hex_upper : (d : ℕ) → d < 16 → is_hex_digit (upper_digit d) ≡ true
is_hex_upper d h = grind (arith, nat_tests)

value_of_upper : (d : ℕ) → d < 16 → digit_value (upper_digit d) ≡ d
value_of_upper d h = grind (arith, nat_tests)

pub length-digits : (k n : ℕ) → length (digits k n) ≡ k
unfolding digits
length-digits zero n = refl
length-digits (suc k) n = length-append (digits k (n / 16)) _ ∙ rw (length-digits k (n / 16)) (add-one k)

list_all-digits : (k n : ℕ) → list_all is_hex_digit (digits k n) ≡ true
unfolding digits
list_all-digits zero n = refl
list_all-digits (suc k) n =
    list_all-append is_hex_digit (digits k (n / 16)) _ ∙ rw (list_all-digits k (n / 16), is_hex_upper (n % 16) (omega arith)) refl

value-digits : (k n : ℕ) → n < 16 ^ k → digits_value 16 (digits k n) ≡ n
unfolding digits
value-digits zero n h = (let e : n ≡ 0 = omega arith in sym e)
value-digits (suc k) n h =
    let small : n / 16 < 16 ^ k = omega (arith, rw pow-suc at h) in
    digits_value_push 16 (digits k (n / 16)) (upper_digit (n % 16))
    ∙ rw (value-digits k (n / 16) small, value_of_upper (n % 16) (omega arith)) (omega arith)

-- the digits of a number stand for it
pub hex_of-digits : (k n : ℕ) → n < 16 ^ k → hex_of (digits k n) ≡ Some n
hex_of-digits k n h = is_number is_hex_digit 16 (digits k n) n (record { all = list_all-digits k n; value = value-digits k n h })

digits_push : (k : ℕ) (front : List ℕ) (x v : ℕ) → digits_value 16 front ≡ v → front ≡ digits k v → v < 16 ^ k → is_hex_digit x ≡ true → (front ++ x ∷ [] ≡ digits (suc k) (digits_value 16 (front ++ x ∷ []))) × (digits_value 16 (front ++ x ∷ []) < 16 ^ suc k)
unfolding digits
digits_push k front x v value again small h =
    let low = hex_digit_small x h in
    let number : digits_value 16 (front ++ x ∷ []) ≡ v * 16 + digit_value x = digits_value_push 16 front x ∙ ap (λ n. n * 16 + digit_value x) value in
    rw (number, div-mul-add v 16 (digit_value x) low, mod-mul-add v 16 (digit_value x) low, value_upper_hex x h)
    (ap (λ zs. zs ++ x ∷ []) again, rw add-one at (grows 16 v (digit_value x) k small low))

-- and each text of digits is that of its number
digits_again : (k : ℕ) (word : List ℕ) → length word ≡ k → list_all is_hex_digit word ≡ true → (word ≡ digits k (digits_value 16 word)) × (digits_value 16 word < 16 ^ k)
unfolding digits
digits_again zero [] e h = (refl, lit< tt)
digits_again zero (x ∷ xs) e h = absurd (omega arith)
digits_again (suc k) word e h =
    let whole = before_last word k e in
    let all = and_parts _ _ (sym (list_all-append is_hex_digit (take k word) (get_or word k 0 ∷ [])) ∙ (ap (list_all is_hex_digit) whole ∙ h)) in
    let last : is_hex_digit (get_or word k 0) ≡ true = (and_parts _ _ all.1).0 in
    let front = digits_again k (take k word) (omega (arith, ap length whole, length-append (take k word) (get_or word k 0 ∷ []))) all.0 in
    let P : List ℕ → Type 0 = λ w. (w ≡ digits (suc k) (digits_value 16 w)) × (digits_value 16 w < 16 ^ suc k) in
    subst P whole (digits_push k (take k word) (get_or word k 0) _ refl front.0 front.1 last)

-- what is read of k digits is the number whose digits they are
pub hex_takes : (k : ℕ) (word : List ℕ) (n : ℕ) → length word ≡ k → hex_of word ≡ Some n → (word ≡ digits k n) × (n < 16 ^ k)
hex_takes k word n e h =
    let read = number_is is_hex_digit 16 word n h in
    let P : ℕ → Type 0 = λ m. (word ≡ digits k m) × (m < 16 ^ k) in
    subst P read.value (digits_again k word e read.all)

-- ---- Weights

pub weight_takes : (word : List ℕ) (n : ℕ) → weight_of word ≡ Some n → (word ≡ digits 4 n) × (n < 0x1_0000)
weight_takes word n h = cases (length word == 4) refl
  where
    cases : (b : Bool) → (length word == 4) ≡ b → (word ≡ digits 4 n) × (n < 0x1_0000)
    cases true e = hex_takes 4 word n (eqb-true (length word) 4 e) (let k = rw e at h in k)
    cases false e = let k = rw e at h in cc

pub weight_of-digits : (n : ℕ) → n < 0x1_0000 → weight_of (digits 4 n) ≡ Some n
weight_of-digits n h = rw (length-digits 4 n) (hex_of-digits 4 n h)
