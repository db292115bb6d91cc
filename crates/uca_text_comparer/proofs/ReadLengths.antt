-- What is read of a text has at most two code points a byte in Normalization Form D, also with numbers by value.
use Rattle.std.proofs.Common.{◌≡◌, ℕ, ◌+◌, ◌-◌, ◌*◌, ◌/◌, ◌%◌, ◌≤◌, List, [], ◌∷◌, ◌++◌, length, length-append, replicate, flat_map, map, Bool, true, false, cond, nat_eq, chars, encode_utf8, encode_utf8_all, IsUtf8, sym, ap, subst, ◌∙◌, inl, inr, arith}
use Rattle.std.specs.Char.{len_utf8}
use Rattle.std.specs.List.{AllByRecursion}
use Rattle.std.proofs.lemmas.Bool.{cases_Bool}
use Rattle.std.proofs.lemmas.Grind.{flat_map-append}
use Rattle.std.proofs.lemmas.List.{length-map, length-replicate}
use Rattle.std.proofs.lemmas.Str.{length-encode, len_utf8_bounds, encodes-chars}
use Rattle.unicode_normalization.specs.Decompose.{decompose}
use Rattle.unicode_normalization.specs.Forms.{nfd, Nfd, decomposed}
use Rattle.unicode_normalization.proofs.DecomposeLemmas.{decompose-final}
use Rattle.unicode_normalization.proofs.FormsLemmas.{normalize-Nfd, is_final-Nfd, quick_check-ascii}
use Rattle.unicode_normalization.proofs.LengthLemmas.{length-decompose, length-normalize-chars}
use Rattle.unicode_normalization.proofs.OrderLemmas.{length-canonical_order}
use Rattle.uca_weights.specs.declared.Numbers.{Numbers}
use Rattle.uca_weights.specs.declared.Numbers.TheVariants.{AsText, ByValue}
use Rattle.uca_values.specs.Content.{Properties}
use Rattle.uca_text.specs.Limits.{IsAccepted}
use Rattle.uca_text.proofs.Runs.{few_have_no_long_run}
use Rattle.uca_numbers.specs.Numbers.{IsDigit, is_digit, significant, number_code}
use Rattle.uca_numbers.specs.Texts.{by_value, by_value_after}
use Rattle.uca_numbers.proofs.CodeDigits.{each_of_both, code_digits}
use Rattle.uca_numbers.proofs.Rewriting.{digit_from_test, after_digit, after_other}
use Rattle.uca_numbers.proofs.Values.{trimmed}
use Rattle.uca_order.specs.Depths.{written, written_text}

abbrev AreDigits : List ℕ → Type 0
AreDigits = AllByRecursion IsDigit

-- ---- Codes of numbers

without_zero : (zero_first : Bool) (c : ℕ) (more trimmed : List ℕ) → length trimmed ≤ length more → length (cond zero_first trimmed (c ∷ more)) ≤ length (c ∷ more)
without_zero true c more trimmed fewer = omega (arith, fewer)
without_zero false c more trimmed fewer = omega arith

significant_length : (digits : List ℕ) → length (significant digits) ≤ length digits
significant_length [] = omega arith
significant_length (c ∷ []) = omega arith
significant_length (c ∷ d ∷ more) = without_zero (nat_eq c 0x30) c (d ∷ more) (significant (d ∷ more)) (significant_length (d ∷ more))

-- the code has at most two digits for each digit
code_length : (number : List ℕ) → AreDigits number → length (number_code number) ≤ 2 * length number
code_length [] all = omega arith
code_length (c ∷ more) all =
    let digits = trimmed c more all in
    let last = significant (c ∷ more) in
    let some : length last ≡ length (digits.first ∷ digits.more) = ap length digits.same in
    let nines = (length last - 1) / 8 in
    omega (
      arith,
      some,
      significant_length (c ∷ more),
      length-append {A = ℕ} (replicate nines 0x39 ++ (0x31 + (length last - 1) % 8) ∷ []) last,
      length-append {A = ℕ} (replicate nines 0x39) ((0x31 + (length last - 1) % 8) ∷ []),
      length-replicate {A = ℕ} nines 0x39,
    )

in_code : (number : List ℕ) → AreDigits number → AreDigits (number_code number)
in_code [] all = tt
in_code (c ∷ more) all = let code = code_digits (c ∷ more) all in subst AreDigits (sym code.same) code.all

-- ---- Decompositions

-- digits decompose to themselves
digits_length : (digits : List ℕ) → AreDigits digits → length (flat_map (decompose Nfd) digits) ≡ length digits
digits_length [] all = omega arith
digits_length (d ∷ digits) all =
    let high : d ≤ 0x39 = all.0.high in
    let itself = decompose-final Nfd d (is_final-Nfd d (quick_check-ascii Nfd d (omega (arith, high)))) in
    omega (arith, length-append (decompose Nfd d) (flat_map (decompose Nfd) digits), ap length itself, digits_length digits all.1)

-- so what comes after the digits of a number does
after_length : (number points : List ℕ) → AreDigits number →
    length (flat_map (decompose Nfd) (by_value_after number points)) ≤ 2 * (length number + length (encode_utf8_all points))
after_length number [] all = omega (arith, digits_length (number_code number) (in_code number all), code_length number all)
after_length number (c ∷ points) all =
    let count : List ℕ → ℕ = λ l. length (flat_map (decompose Nfd) l) in
    let bytes : length (encode_utf8_all (c ∷ points)) ≡ len_utf8 c + length (encode_utf8_all points) =
    length-append (encode_utf8 c) (encode_utf8_all points) ∙ ap (λ n. n + length (encode_utf8_all points)) (length-encode c) in
    elim (cases_Bool (is_digit c)) [
      | inl is ↦
          let rest = after_length (number ++ c ∷ []) points (each_of_both IsDigit number (c ∷ []) all (digit_from_test c is, tt)) in
          omega (arith, ap count (after_digit number c points is), rest, length-append number (c ∷ []), (len_utf8_bounds c).0, bytes)
      | inr is_not ↦
          omega (
            arith,
            ap count (after_other number c points is_not),
            ap length (flat_map-append (decompose Nfd) (number_code number) (c ∷ by_value points)),
            length-append (flat_map (decompose Nfd) (number_code number)) (flat_map (decompose Nfd) (c ∷ by_value points)),
            length-append (decompose Nfd c) (flat_map (decompose Nfd) (by_value points)),
            digits_length (number_code number) (in_code number all),
            code_length number all,
            length-decompose Nfd c,
            after_length [] points tt,
            bytes,
          )
    ]

pub read_length : (numbers : Numbers) (bytes : List ℕ) → IsUtf8 bytes → length (nfd (written numbers (chars bytes))) ≤ 2 * length bytes
unfolding decomposed
read_length AsText bytes utf8 = length-normalize-chars Nfd bytes utf8
read_length ByValue bytes utf8 =
    let points = by_value (chars bytes) in
    omega (
      arith,
      ap length (normalize-Nfd points),
      length-canonical_order (flat_map (decompose Nfd) points),
      after_length [] (chars bytes) tt,
      ap length (encodes-chars bytes utf8),
    )

-- so a short text is accepted
pub short_text_accepted : (numbers : Numbers) (properties : Properties) (bytes : List ℕ) → IsUtf8 bytes → length bytes ≤ 32
    → IsAccepted (written_text numbers properties (chars bytes))
short_text_accepted numbers properties bytes utf8 short =
    let points = nfd (written numbers (chars bytes)) in
    let few : length points ≤ 64 = omega (arith, read_length numbers bytes utf8, short) in
    let classes = length-map points properties.class in
    record { same = classes; few = omega (arith, few); short_runs = few_have_no_long_run (map properties.class points) (omega (arith, few, classes)) }
