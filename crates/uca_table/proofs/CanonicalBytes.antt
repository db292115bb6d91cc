-- Texts in which no byte passes a test, and how they are cut.
use Rattle.std.proofs.Common.{◌≡◌, ℕ, ◌^◌, ◌<◌, ◌≤◌, ◌&&◌, ◌==◌, leb, Bool, true, false, List, [], ◌∷◌, ◌++◌, length, Some, refl, sym, ap, ◌∙◌, arith, lit≤}
use Rattle.std.specs.Prelude.{nat_lt, not}
use Rattle.std.specs.List.{list_all}
use Rattle.std.specs.Char.{IsScalar}
use Rattle.std.proofs.lemmas.Bool.{false≢true, and_parts}
use Rattle.std.proofs.lemmas.Bool.Decides.{nat_tests}
use borrow.Table.Char.{scalar_below}
use borrow.Author.Tests.{ltb-true}
use Rattle.uca_lines.specs.Lines.{is_lf, Lacks}
use Rattle.uca_lines.specs.Fields.{is_blank, is_hash, is_semicolon, up_to, from_first, skip_blanks, no_end_blanks, trim, text_of, halves}
use Rattle.uca_lines.specs.Numbers.{is_hex_digit, code_point_of, digits, point_width}
use Rattle.uca_lines.proofs.DigitLemmas.{IsNumber, number_is, hex_of-digits, length-digits}
use Rattle.uca_table.specs.Canonical.{point_text}

-- ---- Cuts

-- of a text that is written out, by computation
pub list_lacks : (p : ℕ → Bool) (xs : List ℕ) → list_all (λ b. not (p b)) xs ≡ true → Lacks p xs
list_lacks p [] h = tt
list_lacks p (x ∷ xs) h = cases (list_lacks p xs) (p x) refl h
  where
    cases : (list_all (λ b. not (p b)) xs ≡ true → Lacks p xs) → (v : Bool) → p x ≡ v → list_all (λ b. not (p b)) (x ∷ xs) ≡ true → Lacks p (x ∷ xs)
    cases later true e k = absurd (let n = rw e at k in false≢true n)
    cases later false e k = (e, later (rw e at k))

pub up_to_lacks : (p : ℕ → Bool) (front back : List ℕ) → Lacks p front → up_to p (front ++ back) ≡ front ++ up_to p back
up_to_lacks p [] back h = refl
up_to_lacks p (b ∷ bs) back h = rw h.0 (ap (λ zs. b ∷ zs) (up_to_lacks p bs back h.1))

pub from_first_lacks : (p : ℕ → Bool) (front back : List ℕ) → Lacks p front → from_first p (front ++ back) ≡ from_first p back
from_first_lacks p [] back h = refl
from_first_lacks p (b ∷ bs) back h = rw h.0 (from_first_lacks p bs back h.1)

up_to_all : (p : ℕ → Bool) (xs : List ℕ) → Lacks p xs → up_to p xs ≡ xs
up_to_all p [] h = refl
up_to_all p (b ∷ bs) h = rw h.0 (ap (λ zs. b ∷ zs) (up_to_all p bs h.1))

-- ---- Blanks

-- there is no blank at the front
pub skip_front : (xs ys : List ℕ) → 1 ≤ length xs → Lacks is_blank xs → skip_blanks (xs ++ ys) ≡ xs ++ ys
skip_front [] ys some h = absurd (omega arith)
skip_front (x ∷ xs) ys some h = rw h.0 refl

pub skip_none : (xs : List ℕ) → Lacks is_blank xs → skip_blanks xs ≡ xs
skip_none [] h = refl
skip_none (x ∷ xs) h = rw h.0 refl

and_false : (b : Bool) → (b && false) ≡ false
and_false true = refl
and_false false = refl

not_all_blank : (xs : List ℕ) (y : ℕ) (ys : List ℕ) → is_blank y ≡ false → list_all is_blank (xs ++ y ∷ ys) ≡ false
not_all_blank [] y ys h = rw h refl
not_all_blank (x ∷ xs) y ys h = rw (not_all_blank xs y ys h) (and_false (is_blank x))

keeps_plain : (xs : List ℕ) → Lacks is_blank xs → no_end_blanks xs ≡ xs
keeps_plain [] h = refl
keeps_plain (x ∷ xs) h = rw h.0 (ap (λ zs. x ∷ zs) (keeps_plain xs h.1))

-- there is no blank at the end
pub keeps_end : (xs ys : List ℕ) → 1 ≤ length ys → Lacks is_blank ys → no_end_blanks (xs ++ ys) ≡ xs ++ ys
keeps_end xs [] some h = absurd (omega arith)
keeps_end [] (y ∷ ys) some h = keeps_plain (y ∷ ys) h
keeps_end (x ∷ xs) (y ∷ ys) some h = rw (not_all_blank (x ∷ xs) y ys h.0) (ap (λ zs. x ∷ zs) (keeps_end xs (y ∷ ys) some h))

-- a line with neither comment nor blanks at its ends is its own text
pub text_again : (line front back : List ℕ) → line ≡ front ++ back → Lacks is_hash line → skip_blanks line ≡ line → 1 ≤ length back
    → Lacks is_blank back → text_of line ≡ line
text_again line front back whole plain begins some ends =
    ap trim (up_to_all is_hash line plain)
    ∙ (ap no_end_blanks (begins ∙ whole) ∙ (keeps_end front back some ends ∙ sym whole))

-- ---- Halves

pub halves_are : (xs ys : List ℕ) → Lacks (λ b. b == 46) xs → halves (xs ++ 46 ∷ 46 ∷ ys) ≡ Some (xs, ys)
halves_are [] ys h = refl
halves_are (a ∷ []) ys h = rw h.0 refl
halves_are (a ∷ b ∷ bs) ys h = rw (h.0, halves_are (b ∷ bs) ys h.1) refl

-- ---- Digits

pub lacks_digits : (p : ℕ → Bool) → ((b : ℕ) → is_hex_digit b ≡ true → p b ≡ false) → (xs : List ℕ) → list_all is_hex_digit xs ≡ true → Lacks p xs
lacks_digits p each [] h = tt
lacks_digits p each (x ∷ xs) h = let k = and_parts _ _ h in (each x k.0, lacks_digits p each xs k.1)

pub digit_no_blank : (b : ℕ) → is_hex_digit b ≡ true → is_blank b ≡ false
digit_no_blank b h = grind (arith, nat_tests)

pub digit_no_hash : (b : ℕ) → is_hex_digit b ≡ true → is_hash b ≡ false
digit_no_hash b h = grind (arith, nat_tests)

pub digit_no_semicolon : (b : ℕ) → is_hex_digit b ≡ true → is_semicolon b ≡ false
digit_no_semicolon b h = grind (arith, nat_tests)

pub digit_no_lf : (b : ℕ) → is_hex_digit b ≡ true → is_lf b ≡ false
digit_no_lf b h = grind (arith, nat_tests)

pub digit_no_dot : (b : ℕ) → is_hex_digit b ≡ true → (b == 46) ≡ false
digit_no_dot b h = grind (arith, nat_tests)

pub digits_all : (k n : ℕ) → n < 16 ^ k → list_all is_hex_digit (digits k n) ≡ true
digits_all k n h = (number_is is_hex_digit 16 (digits k n) n (hex_of-digits k n h)).all

-- ---- Code points

-- what the digits of a code point are
record IsWide (c w : ℕ) : Type 0 where
  low : 4 ≤ w
  high : w ≤ 6
  fits : c < 16 ^ w

wide : (c : ℕ) → IsScalar c → IsWide c (point_width c)
wide c h = cases (nat_lt c 0x1_0000) refl (nat_lt c 0x10_0000) refl
  where
    cases : (a : Bool) → nat_lt c 0x1_0000 ≡ a → (b : Bool) → nat_lt c 0x10_0000 ≡ b → IsWide c (point_width c)
    cases true p b q = rw p (record { low = lit≤ tt; high = lit≤ tt; fits = ltb-true c 0x1_0000 p })
    cases false p true q = rw (p, q) (record { low = lit≤ tt; high = lit≤ tt; fits = ltb-true c 0x10_0000 q })
    cases false p false q = rw (p, q) (record { low = lit≤ tt; high = lit≤ tt; fits = (let below = scalar_below c h in omega arith) })

pub point_all : (c : ℕ) → IsScalar c → list_all is_hex_digit (point_text c) ≡ true
unfolding point_text
point_all c h = digits_all (point_width c) c (wide c h).fits

pub point_some : (c : ℕ) → IsScalar c → 1 ≤ length (point_text c)
unfolding point_text
point_some c h = omega (arith, length-digits (point_width c) c, (wide c h).low)

is_point : (word : List ℕ) (c : ℕ) → 4 ≤ length word → length word ≤ 6 → IsNumber is_hex_digit 16 word c → IsScalar c → code_point_of word ≡ Some c
is_point word c low high number h = rw (leb_is 4 (length word) low, leb_is (length word) 6 high, number.all, number.value, h) refl
  where
    leb_is : (m n : ℕ) → m ≤ n → leb m n ≡ true
    leb_is m n l = grind (arith, nat_tests)

pub code_point_again : (c : ℕ) → IsScalar c → code_point_of (point_text c) ≡ Some c
unfolding point_text
code_point_again c h =
    let w = wide c h in
    let long = length-digits (point_width c) c in
    is_point (digits (point_width c) c) c (omega (arith, long, w.low)) (omega (arith, long, w.high))
    (number_is is_hex_digit 16 (digits (point_width c) c) c (hex_of-digits (point_width c) c w.fits)) h
