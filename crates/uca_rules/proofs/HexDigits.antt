-- The number that hexadecimal digits give: one digit more, and why there is none.
use Rattle.std.proofs.Common.{◌≡◌, ℕ, zero, suc, ◌+◌, ◌*◌, ◌^◌, ◌<◌, ◌≤◌, Bool, true, false, List, length, get_or, take, Option, Some, None, if◌then◌else◌, [], ◌∷◌, min, refl, ap, eq-eqb, nat_lt, arith, lit≤}
use Rattle.std.proofs.lemmas.Bool.{ne_eqb}
use Rattle.std.proofs.lemmas.Bool.Decides.{nat_tests, Decides-ltb}
use Rattle.std.proofs.Math.Bool.{and-false}
use Rattle.std.proofs.lemmas.Int.Digits.{digits_value_push}
use Rattle.std.proofs.lemmas.List.{length-take}
use Rattle.std.proofs.lemmas.List.Folds.{list_all-append, list_all_at}
use Rattle.std.specs.List.{list_all}
use Rattle.std.specs.Char.{digit_value, is_digit}
use Rattle.std.specs.Option.{SomeIff}
use Rattle.std.specs.Str.Parse.{digits_value}
use lib.Utf8.{scalar}
use Rattle.uca_weights.proofs.NumberLemmas.{grows}
use Rattle.uca_rules.specs.declared.characters.Character.{Character}
use Rattle.uca_rules.specs.Characters.{codes_of}
use Rattle.uca_rules.specs.Pieces.{number_at}
use Rattle.uca_rules.proofs.Placing.{length-codes, codes_more, code_at}

no_digit : (d : ℕ) → ¬ (d < 16) → nat_lt d 16 ≡ false
no_digit d other = grind (arith, nat_tests)

-- what a scalar value gives
given : (value : ℕ) (result : Option ℕ) → SomeIff result (scalar value ≡ true) value → result ≡ (if scalar value then Some value else None)
given value None other = cases (scalar value) refl
  where
    cases : (b : Bool) → scalar value ≡ b → None ≡ (if b then Some value else None)
    cases true e = absurd (other e)
    cases false e = refl
given value (Some x) is = rw is.0 (ap Some is.1)

-- the number of the first digits
pub record IsNumber (cs : List Character) (at value : ℕ) : Type 0 where
  pub digits : list_all (λ c. is_digit c 16) (codes_of (take at cs)) ≡ true
  pub number : digits_value 16 (codes_of (take at cs)) ≡ value
  pub small : value < 16 ^ at

pow_small : (at : ℕ) → at < 8 → 16 ^ at ≤ 0x1000_0000
pow_small zero h = lit≤ tt
pow_small (suc zero) h = lit≤ tt
pow_small (suc (suc zero)) h = lit≤ tt
pow_small (suc (suc (suc zero))) h = lit≤ tt
pow_small (suc (suc (suc (suc zero)))) h = lit≤ tt
pow_small (suc (suc (suc (suc (suc zero))))) h = lit≤ tt
pow_small (suc (suc (suc (suc (suc (suc zero)))))) h = lit≤ tt
pow_small (suc (suc (suc (suc (suc (suc (suc zero))))))) h = lit≤ tt
pow_small (suc (suc (suc (suc (suc (suc (suc (suc at)))))))) h = absurd (omega arith)

-- of fewer than eight digits: one more fits in 32 bits
pub number_fits : (value at : ℕ) → value < 16 ^ at → at < 8 → value < 0x1000_0000
number_fits value at small few = omega (arith, small, pow_small at few)

-- one digit more
pub number_more : (cs : List Character) (at value digit : ℕ) (d : Character) → IsNumber cs at value → at < length cs → digit_value (get_or cs at d).code < 16 →
    digit ≡ digit_value (get_or cs at d).code → IsNumber cs (at + 1) (value * 16 + digit)
number_more cs at value digit d i within small is =
    let code = (get_or cs at d).code in
    let more = codes_more cs at d within in
    record {
      digits = rw (more, list_all-append (λ c. is_digit c 16) (codes_of (take at cs)) (code ∷ []), i.digits, (Decides-ltb (digit_value code) 16).1 small) refl;
      number = rw (more, digits_value_push 16 (codes_of (take at cs)) code, i.number, is) refl;
      small = grows 16 value digit at i.small (rw is small);
    }

-- there are too few characters
pub number_short : (cs : List Character) (n : ℕ) → length cs < n → None ≡ number_at n cs
number_short cs n short = rw (length-codes (take n cs), length-take n cs, ne_eqb (min n (length cs)) n (λ e. absurd (omega arith))) refl

-- one of the characters is no digit
pub number_none : (cs : List Character) (n at : ℕ) (d : Character) → at < n → n ≤ length cs → ¬ (digit_value (get_or cs at d).code < 16) → None ≡ number_at n cs
number_none cs n at d here enough other =
    let digits = codes_of (take n cs) in
    let within : at < length digits = rw (length-codes (take n cs), length-take n cs) (omega arith) in
    let is = code_at cs n at d here (omega arith) in
    let no : is_digit (get_or digits at 0) 16 ≡ false = rw is (no_digit (digit_value (get_or cs at d).code) other) in
    rw (list_all_at (λ c. is_digit c 16) digits at 0 within no, and-false) refl

pub number_all : (cs : List Character) (n value : ℕ) (result : Option ℕ) → IsNumber cs n value → n ≤ length cs → SomeIff result (scalar value ≡ true) value → result ≡ number_at n cs
number_all cs n value result i enough is =
    rw (i.digits, i.number, length-codes (take n cs), length-take n cs) (let e : min n (length cs) ≡ n = omega arith in rw (e, eq-eqb n n refl) (given value result is))
