-- What is written of a text, code point by code point.
use Rattle.std.proofs.Common.{◌≡◌, ℕ, ◌+◌, ◌-◌, ◌/◌, ◌%◌, ◌<◌, ◌≤◌, ◌==◌, List, [], ◌∷◌, ◌++◌, length, take, drop, get_or, replicate, true, false, nat_eq, Bool, sym, ap, ap₂, ◌∙◌, arith, append_assoc}
use Rattle.std.proofs.lemmas.Bool.Decides.{nat_tests}
use Rattle.std.proofs.lemmas.Bool.{cond_both}
use Rattle.std.proofs.lemmas.List.{drop_more, take_more, get_or-drop, length-drop, take_rest, drop_all, get_or_read}
use Rattle.uca_numbers.specs.Numbers.{is_digit, significant, number_code, length_code}
use Rattle.uca_numbers.specs.Texts.{by_value, by_value_after}
use Rattle.uca_numbers.proofs.Rewriting.{after_digit, after_other}

-- the number that goes on at a place, and where it began
abbrev pub number_at : List ℕ → ℕ → ℕ → List ℕ
number_at points start place = take (place - start) (drop start points)

-- what is left to write
abbrev pub left_at : List ℕ → ℕ → ℕ → List ℕ
left_at points start place = by_value_after (number_at points start place) (drop place points)

-- the number goes on with a digit
number_more : (points : List ℕ) (start place : ℕ) → start ≤ place → place < length points →
    number_at points start (place + 1) ≡ number_at points start place ++ get_or points place 0 ∷ []
number_more points start place begun within =
    let more : place + 1 - start ≡ (place - start) + 1 = omega (arith, begun) in
    let fits : place - start < length (drop start points) = omega (arith, length-drop start points, begun, within) in
    let there : start + (place - start) ≡ place = omega (arith, begun) in
    ap (λ n. take n (drop start points)) more
    ∙ take_more (drop start points) (place - start) 0 fits
    ∙ ap (λ c. number_at points start place ++ c ∷ []) (get_or-drop start points (place - start) 0 ∙ ap (λ n. get_or points n 0) there)

pub digit_step : (points made : List ℕ) (start place : ℕ) → start ≤ place → place < length points → is_digit (get_or points place 0) ≡ true →
    made ++ left_at points start place ≡ by_value points → made ++ left_at points start (place + 1) ≡ by_value points
digit_step points made start place begun within digit before =
    ap (λ n. made ++ by_value_after n (drop (place + 1) points)) (number_more points start place begun within)
    ∙ ap (λ l. made ++ l) (sym (after_digit (number_at points start place) (get_or points place 0) (drop (place + 1) points) digit))
    ∙ ap (λ l. made ++ by_value_after (number_at points start place) l) (sym (drop_more points place 0 within))
    ∙ before

-- the number ends before another code point
pub other_step : (points made coded pushed : List ℕ) (start place : ℕ) → place < length points → is_digit (get_or points place 0) ≡ false →
    made ++ left_at points start place ≡ by_value points → coded ≡ made ++ number_code (number_at points start place) →
    pushed ≡ coded ++ get_or points place 0 ∷ [] → pushed ++ left_at points (place + 1) (place + 1) ≡ by_value points
other_step points made coded pushed start place within other before with_code with_point =
    let number = number_at points start place in
    let point = get_or points place 0 in
    let rest = drop (place + 1) points in
    let none : place + 1 - (place + 1) ≡ 0 = omega arith in
    ap (λ n. pushed ++ by_value_after (take n rest) rest) none
    ∙ ap (λ l. l ++ by_value rest) (with_point ∙ ap (λ l. l ++ point ∷ []) with_code)
    ∙ append_assoc (made ++ number_code number) (point ∷ []) (by_value rest)
    ∙ append_assoc made (number_code number) (point ∷ by_value rest)
    ∙ ap (λ l. made ++ l) (sym (after_other number point rest other))
    ∙ ap (λ l. made ++ by_value_after number l) (sym (drop_more points place 0 within))
    ∙ before

-- what is written is so much of the text by value, and a number may go on
abbrev pub IsWritten : List ℕ → List ℕ → ℕ → ℕ → Type 0
IsWritten points made start place = (start ≤ place) × (made ++ left_at points start place ≡ by_value points)

pub digit_branch : (points made new : List ℕ) (start began place point : ℕ) (test : Bool) → new ≡ made → began ≡ start → place < length points →
    point ≡ get_or points place point → test ≡ is_digit point → test ≡ true → IsWritten points made start place → IsWritten points new began (place + 1)
digit_branch points made new start began place point test new_is began_is within there tested is before =
    let begun : start ≤ place = before.0 in
    let digit : is_digit (get_or points place 0) ≡ true = ap is_digit (sym (get_or_read points place point within there 0)) ∙ sym tested ∙ is in (
      omega (arith, begun, began_is),
      ap₂ (λ m n. m ++ left_at points n (place + 1)) new_is began_is ∙ digit_step points made start place begun within digit before.1,
    )

pub other_branch : (points made coded pushed new : List ℕ) (start began place point : ℕ) (test : Bool) → new ≡ pushed → began ≡ place + 1 → place < length points →
    point ≡ get_or points place point → test ≡ is_digit point → test ≡ false → IsWritten points made start place →
    coded ≡ made ++ number_code (number_at points start place) → pushed ≡ coded ++ point ∷ [] → IsWritten points new began (place + 1)
other_branch points made coded pushed new start began place point test new_is began_is within there tested is_not before with_code with_point =
    let same : point ≡ get_or points place 0 = get_or_read points place point within there 0 in
    let other : is_digit (get_or points place 0) ≡ false = ap is_digit (sym same) ∙ sym tested ∙ is_not in (
      omega (arith, began_is),
      ap₂ (λ m n. m ++ left_at points n (place + 1)) new_is began_is
          ∙ other_step points made coded pushed start place within other before.1 with_code (with_point ∙ ap (λ p. coded ++ p ∷ []) same),
    )

-- the text ends after a number, or after another code point
pub end_step : (points made coded : List ℕ) (start place : ℕ) → length points ≤ place → place ≤ length points →
    made ++ left_at points start place ≡ by_value points → coded ≡ made ++ number_code (drop start points) → coded ≡ by_value points
end_step points made coded start place past within before with_code =
    let last : place ≡ length points = omega (arith, past, within) in
    with_code
    ∙ ap (λ l. made ++ number_code l) (sym (take_rest points start))
    ∙ ap (λ n. made ++ number_code (number_at points start n)) (sym last)
    ∙ ap (λ l. made ++ by_value_after (number_at points start place) l) (sym (drop_all place points past))
    ∙ before

-- ---- A code

pub some_significant : (number : List ℕ) → (length number == 0) ≡ false → 1 ≤ length (significant number)
some_significant [] some = absurd (grind (arith, nat_tests, some))
some_significant (c ∷ []) some = omega arith
some_significant (c ∷ d ∷ more) some =
    cond_both (nat_eq c 0x30) (significant (d ∷ more)) (c ∷ d ∷ more) (λ l. 1 ≤ length l)
    (λ is. some_significant (d ∷ more) (grind (arith, nat_tests))) (λ is_not. omega arith)

-- nines, one more digit, and the digits of the number
pub code_written : (made nined pushed new digits number : List ℕ) (last : ℕ) → (length number == 0) ≡ false → digits ≡ significant number →
    nined ≡ made ++ replicate ((length digits - 1) / 8) 0x39 → pushed ≡ nined ++ last ∷ [] → last ≡ 0x31 + (length digits - 1) % 8 → new ≡ pushed ++ digits →
    new ≡ made ++ number_code number
code_written made nined pushed new digits [] last some are with_nines with_last last_is all = absurd (grind (arith, nat_tests, some))
code_written made nined pushed new digits (c ∷ more) last some are with_nines with_last last_is all =
    let run = replicate ((length digits - 1) / 8) 0x39 in
    all
    ∙ ap (λ l. l ++ digits) (with_last ∙ ap (λ l. l ++ last ∷ []) with_nines ∙ append_assoc made run (last ∷ []) ∙ ap (λ l. made ++ (run ++ l ∷ [])) last_is)
    ∙ append_assoc made (length_code (length digits)) digits
    ∙ ap (λ l. made ++ (length_code (length l) ++ l)) are
