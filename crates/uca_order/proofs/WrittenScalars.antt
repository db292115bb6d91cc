-- What is read of a text has Unicode scalar values alone, where the text has.
use Rattle.std.proofs.Common.{◌≡◌, ℕ, suc, zero, ◌+◌, ◌-◌, ◌/◌, ◌%◌, ◌<◌, List, [], ◌∷◌, ◌++◌, Bool, true, false, ◌&&◌, length, replicate, if◌then◌else◌, nat_eq, refl, arith}
use Rattle.std.proofs.lemmas.Bool.{and_parts, and_from}
use Rattle.std.specs.List.{list_all}
use lib.Utf8.{scalar, scalars, low_scalar}
use Rattle.uca_weights.specs.declared.Numbers.{Numbers}
use Rattle.uca_weights.specs.declared.Numbers.TheVariants.{AsText, ByValue}
use Rattle.uca_numbers.specs.Numbers.{is_digit, significant, length_code, number_code}
use Rattle.uca_numbers.specs.Texts.{by_value, by_value_after}
use Rattle.uca_order.specs.Depths.{written}

scalars_append : (xs ys : List ℕ) → scalars xs ≡ true → scalars ys ≡ true → scalars (xs ++ ys) ≡ true
scalars_append [] ys left right = right
scalars_append (x ∷ xs) ys left right =
    let parts = and_parts (scalar x) (scalars xs) left in and_from _ _ parts.0 (scalars_append xs ys parts.1 right)

scalars_nines : (n : ℕ) → scalars (replicate n 0x39) ≡ true
scalars_nines zero = refl
scalars_nines (suc n) = scalars_nines n

-- ---- Codes

scalars_length : (n : ℕ) → scalars (length_code n) ≡ true
scalars_length n =
    let small : 0x31 + (n - 1) % 8 < 55296 = omega arith in
    scalars_append (replicate ((n - 1) / 8) 0x39) ((0x31 + (n - 1) % 8) ∷ []) (scalars_nines ((n - 1) / 8))
    (and_from (scalar (0x31 + (n - 1) % 8)) true (low_scalar (0x31 + (n - 1) % 8) small) refl)

scalars_significant : (number : List ℕ) → scalars number ≡ true → scalars (significant number) ≡ true
scalars_significant [] all = refl
scalars_significant (c ∷ []) all = all
scalars_significant (c ∷ d ∷ more) all = by_first (nat_eq c 0x30) (scalars_significant (d ∷ more) (and_parts (scalar c) (scalars (d ∷ more)) all).1)
  where
    by_first : (zero : Bool) → scalars (significant (d ∷ more)) ≡ true → scalars (if zero then significant (d ∷ more) else c ∷ d ∷ more) ≡ true
    by_first true rest = rest
    by_first false rest = all

scalars_code : (number : List ℕ) → scalars number ≡ true → scalars (number_code number) ≡ true
scalars_code [] all = refl
scalars_code (c ∷ more) all =
    scalars_append (length_code (length (significant (c ∷ more)))) (significant (c ∷ more)) (scalars_length (length (significant (c ∷ more))))
    (scalars_significant (c ∷ more) all)

-- ---- Texts

scalars_after : (number points : List ℕ) → scalars number ≡ true → scalars points ≡ true → scalars (by_value_after number points) ≡ true
scalars_after number [] all rest = scalars_code number all
scalars_after number (c ∷ more) all rest =
    let parts = and_parts (scalar c) (scalars more) rest in
    by_digit (is_digit c) parts.0
    (scalars_after (number ++ c ∷ []) more (scalars_append number (c ∷ []) all (and_from (scalar c) true parts.0 refl)) parts.1)
    (scalars_after [] more refl parts.1)
  where
    by_digit : (digit : Bool) → scalar c ≡ true → scalars (by_value_after (number ++ c ∷ []) more) ≡ true → scalars (by_value_after [] more) ≡ true
        → scalars (if digit then by_value_after (number ++ c ∷ []) more else number_code number ++ c ∷ by_value_after [] more) ≡ true
    by_digit true is goes_on ends = goes_on
    by_digit false is goes_on ends = scalars_append (number_code number) (c ∷ by_value_after [] more) (scalars_code number all) (and_from _ _ is ends)

pub written_scalars : (numbers : Numbers) (points : List ℕ) → scalars points ≡ true → scalars (written numbers points) ≡ true
written_scalars AsText points all = all
written_scalars ByValue points all = scalars_after [] points refl all
