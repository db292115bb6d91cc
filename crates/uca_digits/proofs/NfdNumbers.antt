-- Numbers may be written by value before Normalization Form D, or after it: a digit decomposes to itself, and nothing sinks past it.
use Rattle.std.proofs.Common.{◌≡◌, ℕ, ◌≤◌, true, false, List, [], ◌∷◌, ◌++◌, flat_map, length, refl, sym, ap, ap₂, ◌∙◌, subst, append-nil, inl, inr, arith}
use Rattle.std.specs.List.{AllByRecursion, list_all}
use Rattle.std.proofs.lemmas.Bool.{cases_Bool, and_parts, not-true, not_from_false}
use Rattle.std.proofs.lemmas.Grind.{flat_map-append}
use Rattle.ucd_normal.specs.CanonicalCombiningClass.{canonical_combining_class as ccc}
use Rattle.unicode_normalization.specs.Forms.{nfd, Nfd, decomposed}
use Rattle.unicode_normalization.specs.Decompose.{decompose}
use Rattle.unicode_normalization.specs.Order.{is_reorderable, sink, canonical_order}
use Rattle.unicode_normalization.proofs.DecomposeLemmas.{decompose-final, IsFull-decompose}
use Rattle.unicode_normalization.proofs.FormsLemmas.{normalize-Nfd, is_final-Nfd, quick_check-ascii, class-latin}
use Rattle.unicode_normalization.proofs.OrderLemmas.{not_reorderable_starter, sink-nil, sink-past, sink-stays, sink-starter, canonical_order-nil, canonical_order-cons}
use Rattle.uca_numbers.specs.Numbers.{IsDigit, is_digit, number_code}
use Rattle.uca_numbers.specs.Texts.{by_value, by_value_after}
use Rattle.uca_numbers.proofs.CodeDigits.{each_of_both, code_digits}
use Rattle.uca_numbers.proofs.Rewriting.{digit_from_test, after_digit, after_other, codes_stand}
use Rattle.uca_digits.specs.Digits.{NumbersMayBeWrittenFirst, TextsWithoutDigitsStay}
use Rattle.uca_digits.proofs.NfdDigits.{other, decomposed_others}

abbrev AreDigits : List ℕ → Type 0
AreDigits = AllByRecursion IsDigit

with_digit : (number : List ℕ) (c : ℕ) → AreDigits number → IsDigit c → AreDigits (number ++ c ∷ [])
with_digit number c all digit = each_of_both IsDigit number (c ∷ []) all (digit, tt)

-- the code of a number has digits alone, also where the number is empty
in_code : (number : List ℕ) → AreDigits number → AreDigits (number_code number)
in_code [] all = tt
in_code (c ∷ more) all = let code = code_digits (c ∷ more) all in subst AreDigits (sym code.same) code.all

-- ---- A digit decomposes to itself, and nothing sinks past it

digit_itself : (d : ℕ) → IsDigit d → decompose Nfd d ≡ d ∷ []
digit_itself d digit =
    let high : d ≤ 0x39 = digit.high in decompose-final Nfd d (is_final-Nfd d (quick_check-ascii Nfd d (omega (arith, high))))

digit_starter : (d : ℕ) → IsDigit d → ccc d ≤ 0
digit_starter d digit =
    let high : d ≤ 0x39 = digit.high in
    let zero : ccc d ≡ 0 = class-latin d (omega (arith, high)) in
    omega (arith, zero)

digits_themselves : (digits : List ℕ) → AreDigits digits → flat_map (decompose Nfd) digits ≡ digits
digits_themselves [] all = refl
digits_themselves (d ∷ digits) all = ap₂ (λ xs ys. xs ++ ys) (digit_itself d all.0) (digits_themselves digits all.1)

digits_before : (digits rest : List ℕ) → AreDigits digits → canonical_order (digits ++ rest) ≡ digits ++ canonical_order rest
digits_before [] rest all = refl
digits_before (d ∷ digits) rest all =
    canonical_order-cons d (digits ++ rest)
    ∙ sink-starter d (canonical_order (digits ++ rest)) (digit_starter d all.0)
    ∙ ap (λ l. d ∷ l) (digits_before digits rest all.1)

digits_stay : (digits : List ℕ) → AreDigits digits → canonical_order digits ≡ digits
digits_stay digits all =
    ap canonical_order (sym (append-nil digits))
    ∙ digits_before digits [] all
    ∙ ap (λ l. digits ++ l) canonical_order-nil
    ∙ append-nil digits

-- ---- Decompositions

others_stay : (others rest : List ℕ) → list_all other others ≡ true → by_value (others ++ rest) ≡ others ++ by_value rest
others_stay [] rest all = refl
others_stay (c ∷ others) rest all =
    let both = and_parts (other c) (list_all other others) all in
    after_other [] c (others ++ rest) (not-true (is_digit c) both.0) ∙ ap (λ l. c ∷ l) (others_stay others rest both.1)

-- code points that are no digits end a number
others_after : (number others rest : List ℕ) → 1 ≤ length others → list_all other others ≡ true →
    by_value_after number (others ++ rest) ≡ number_code number ++ (others ++ by_value rest)
others_after number [] rest some all = absurd (omega (arith, some))
others_after number (c ∷ others) rest some all =
    let both = and_parts (other c) (list_all other others) all in
    after_other number c (others ++ rest) (not-true (is_digit c) both.0) ∙ ap (λ l. number_code number ++ c ∷ l) (others_stay others rest both.1)

decomposed_by_value : (number points : List ℕ) → AreDigits number →
    flat_map (decompose Nfd) (by_value_after number points) ≡ by_value_after number (flat_map (decompose Nfd) points)
decomposed_by_value number [] all = digits_themselves (number_code number) (in_code number all)
decomposed_by_value number (c ∷ points) all = elim (cases_Bool (is_digit c)) [
  | inl is ↦
      let digit = digit_from_test c is in
      ap (flat_map (decompose Nfd)) (after_digit number c points is)
      ∙ decomposed_by_value (number ++ c ∷ []) points (with_digit number c all digit)
      ∙ sym (after_digit number c (flat_map (decompose Nfd) points) is)
      ∙ ap (λ l. by_value_after number (l ++ flat_map (decompose Nfd) points)) (sym (digit_itself c digit))
  | inr is_not ↦
      ap (flat_map (decompose Nfd)) (after_other number c points is_not)
      ∙ flat_map-append (decompose Nfd) (number_code number) (c ∷ by_value points)
      ∙ ap₂ (λ xs ys. xs ++ (decompose Nfd c ++ ys)) (digits_themselves (number_code number) (in_code number all)) (decomposed_by_value [] points tt)
      ∙ sym (others_after number (decompose Nfd c) (flat_map (decompose Nfd) points) (IsFull-decompose Nfd c).some
      (decomposed_others c (not_from_false (is_digit c) is_not)))
]

-- ---- Canonical order

-- a text by value that begins with a digit
record BeginsWithDigit (points : List ℕ) : Type 0 where
  pub first : ℕ
  pub more : List ℕ
  pub same : points ≡ first ∷ more
  pub digit : IsDigit first

number_first : (d : ℕ) (digits points : List ℕ) → AreDigits (d ∷ digits) → BeginsWithDigit (by_value_after (d ∷ digits) points)
number_first d digits [] all =
    let code = code_digits (d ∷ digits) all in record { first = code.first; more = code.more; same = code.same; digit = code.all.0 }
number_first d digits (c ∷ points) all = elim (cases_Bool (is_digit c)) [
  | inl is ↦
      let begins = number_first d (digits ++ c ∷ []) points (with_digit (d ∷ digits) c all (digit_from_test c is)) in
      record { first = begins.first; more = begins.more; same = after_digit (d ∷ digits) c points is ∙ begins.same; digit = begins.digit }
  | inr is_not ↦
      let code = code_digits (d ∷ digits) all in
      record {
        first = code.first;
        more = code.more ++ c ∷ by_value points;
        same = after_other (d ∷ digits) c points is_not ∙ ap (λ l. l ++ c ∷ by_value points) code.same;
        digit = code.all.0;
      }
]

-- a code point that is no digit sinks into a text by value as into the text
sink_by_value : (number : List ℕ) (c : ℕ) (points : List ℕ) → is_digit c ≡ false →
    by_value_after number (sink c points) ≡ number_code number ++ sink c (by_value points)
sink_by_value number c [] is_other =
    ap (by_value_after number) (sink-nil c) ∙ after_other number c [] is_other ∙ ap (λ l. number_code number ++ l) (sym (sink-nil c))
sink_by_value number c (d ∷ points) is_other = elim (cases_Bool (is_digit d)) [
  | inl is ↦
      let digit = digit_from_test d is in
      let begins = number_first d [] points (digit, tt) in
      let written : by_value (d ∷ points) ≡ begins.first ∷ begins.more = after_digit [] d points is ∙ begins.same in
      ap (by_value_after number) (sink-stays c d points (not_reorderable_starter c d (digit_starter d digit)))
      ∙ after_other number c (d ∷ points) is_other
      ∙ ap (λ l. number_code number ++ l)
      (ap (λ l. c ∷ l) written
      ∙ sym (sink-stays c begins.first begins.more (not_reorderable_starter c begins.first (digit_starter begins.first begins.digit)))
      ∙ ap (sink c) (sym written))
  | inr is_not ↦
      let written : by_value (d ∷ points) ≡ d ∷ by_value points = after_other [] d points is_not in
      elim (cases_Bool (is_reorderable c d)) [
        | inl past ↦
            ap (by_value_after number) (sink-past c d points past)
            ∙ after_other number d (sink c points) is_not
            ∙ ap (λ l. number_code number ++ d ∷ l) (sink_by_value [] c points is_other)
            ∙ ap (λ l. number_code number ++ l) (sym (sink-past c d (by_value points) past) ∙ ap (sink c) (sym written))
        | inr stays ↦
            ap (by_value_after number) (sink-stays c d points stays)
            ∙ after_other number c (d ∷ points) is_other
            ∙ ap (λ l. number_code number ++ l)
            (ap (λ l. c ∷ l) written ∙ sym (sink-stays c d (by_value points) stays) ∙ ap (sink c) (sym written))
      ]
]

ordered_by_value : (number points : List ℕ) → AreDigits number →
    canonical_order (by_value_after number points) ≡ by_value_after number (canonical_order points)
ordered_by_value number [] all = digits_stay (number_code number) (in_code number all) ∙ ap (by_value_after number) (sym canonical_order-nil)
ordered_by_value number (c ∷ points) all = elim (cases_Bool (is_digit c)) [
  | inl is ↦
      let digit = digit_from_test c is in
      ap canonical_order (after_digit number c points is)
      ∙ ordered_by_value (number ++ c ∷ []) points (with_digit number c all digit)
      ∙ sym (after_digit number c (canonical_order points) is)
      ∙ ap (by_value_after number) (sym (canonical_order-cons c points ∙ sink-starter c (canonical_order points) (digit_starter c digit)))
  | inr is_not ↦
      ap canonical_order (after_other number c points is_not)
      ∙ digits_before (number_code number) (c ∷ by_value points) (in_code number all)
      ∙ ap (λ l. number_code number ++ l) (canonical_order-cons c (by_value points) ∙ ap (sink c) (ordered_by_value [] points tt))
      ∙ sym (sink_by_value number c (canonical_order points) is_not)
      ∙ ap (by_value_after number) (sym (canonical_order-cons c points))
]

-- ---- The laws

pub written_first : NumbersMayBeWrittenFirst
unfolding decomposed
written_first points =
    normalize-Nfd (by_value points)
    ∙ ap canonical_order (decomposed_by_value [] points tt)
    ∙ ordered_by_value [] (flat_map (decompose Nfd) points) tt
    ∙ ap by_value (sym (normalize-Nfd points))

pub texts_stay : TextsWithoutDigitsStay
texts_stay points none = sym (written_first points) ∙ ap nfd (codes_stand.other points none)
