-- What is read of a line is what it says, and what it says is read.
use Rattle.std.proofs.Common.{◌≡◌, ℕ, ◌+◌, ◌/◌, ◌%◌, ◌<◌, Bool, true, false, ◌==◌, List, [], ◌∷◌, ◌++◌, length, take, drop, get_or, Option, Some, None, refl, ap, sym, subst, ◌∙◌, arith, append-nil, length-append}
use Rattle.std.specs.Option.{option_map}
use Rattle.std.proofs.lemmas.Option.{same_Some, some_pair_parts}
use Rattle.std.proofs.lemmas.List.{take-append-drop, take_at, drop_at}
use borrow.Author.Tests.{eqb-true}
use Rattle.std.proofs.lemmas.Bool.Decides.{nat_tests}
use Rattle.uca_weights.specs.declared.Level.{Level}
use Rattle.uca_weights.specs.declared.Level.TheVariants.{One, Two, Three}
use Rattle.uca_weights.specs.declared.maps.Run.{Run}
use Rattle.uca_weights.specs.Levels.{level_number}
use Rattle.uca_weights.proofs.Tests.{then_some, map_some}
use Rattle.uca_lines.specs.Lines.{is_lf, Lacks, ended}
use Rattle.uca_lines.specs.Numbers.{weight_of, upper_digit, digits}
use Rattle.uca_lines.proofs.DigitLemmas.{weight_takes, weight_of-digits, length-digits}
use Rattle.uca_lines.proofs.ManyDigits.{four_digits_are, last_digit}
use Rattle.uca_lines.proofs.LineLemmas.{Lacks-append}
use Rattle.uca_certificates.specs.Texts.{RunLine, run_text, IsLine}
use Rattle.uca_certificates.specs.inside.Steps.{level_at, number_at, if_empty, line_of}

-- ---- What is read was written

-- the digit of the level that is read
level_at_takes : (text : List ℕ) (level : Level) (rest : List ℕ) → level_at text ≡ Some (level, rest) → text ≡ (48 + level_number level) ∷ rest
unfolding level_at
level_at_takes [] level rest h = cc
level_at_takes (b ∷ bs) level rest h = cases (b == 49) refl (b == 50) refl (b == 51) refl
  where
    found : (digit : ℕ) (l : Level) → b ≡ digit → 48 + level_number l ≡ digit → ◌≡◌ {A = Option (Level × List ℕ)} (Some (l, bs)) (Some (level, rest))
        → b ∷ bs ≡ (48 + level_number level) ∷ rest
    found digit l e d k = let same = some_pair_parts l level bs rest k in rw (← same.0, ← same.1, e, d) refl

    cases : (u : Bool) → (b == 49) ≡ u → (v : Bool) → (b == 50) ≡ v → (w : Bool) → (b == 51) ≡ w → b ∷ bs ≡ (48 + level_number level) ∷ rest
    cases true e v f w k = found 49 One (eqb-true b 49 e) refl (rw e at h)
    cases false e true f w k = found 50 Two (eqb-true b 50 f) refl (rw (e, f) at h)
    cases false e false f true k = found 51 Three (eqb-true b 51 k) refl (rw (e, f, k) at h)
    cases false e false f false k = let n = rw (e, f, k) at h in cc

-- the digits of the number that is read
number_at_takes : (text : List ℕ) (n : ℕ) (rest : List ℕ) → number_at text ≡ Some (n, rest) → (text ≡ 32 ∷ (digits 4 n ++ rest)) × (n < 0x1_0000)
unfolding number_at
number_at_takes [] n rest h = cc
number_at_takes (b ∷ bs) n rest h = cases (b == 32) refl
  where
    found : b ≡ 32 → option_map {U = ℕ × List ℕ} (λ (m : ℕ). (m, drop 4 bs)) (weight_of (take 4 bs)) ≡ Some (n, rest)
        → (b ∷ bs ≡ 32 ∷ (digits 4 n ++ rest)) × (n < 0x1_0000)
    found e k =
        let f = map_some (λ (m : ℕ). (m, drop 4 bs)) (weight_of (take 4 bs)) (n, rest) k in
        let same : f.0 ≡ n = ap (λ (r : ℕ × List ℕ). r.0) f.2 in
        let tail : drop 4 bs ≡ rest = ap (λ (r : ℕ × List ℕ). r.1) f.2 in
        let taken = weight_takes (take 4 bs) n (f.1 ∙ ap Some same) in
        let whole : bs ≡ digits 4 n ++ rest = sym (take-append-drop 4 bs) ∙ (ap (λ z. z ++ drop 4 bs) taken.0 ∙ ap (λ z. digits 4 n ++ z) tail) in
        (cc, taken.1)

    cases : (v : Bool) → (b == 32) ≡ v → (b ∷ bs ≡ 32 ∷ (digits 4 n ++ rest)) × (n < 0x1_0000)
    cases true e = found (eqb-true b 32 e) (rw e at h)
    cases false e = let k = rw e at h in cc

-- a line from its parts, in the order in which they are read
line_from : (t0 t1 t2 t3 t4 : List ℕ) (level : Level) (from to count : ℕ) (l : RunLine) → t0 ≡ (48 + level_number level) ∷ t1
    → (t1 ≡ 32 ∷ (digits 4 from ++ t2)) × (from < 0x1_0000)
    → (t2 ≡ 32 ∷ (digits 4 to ++ t3)) × (to < 0x1_0000)
    → (t3 ≡ 32 ∷ (digits 4 count ++ t4)) × (count < 0x1_0000)
    → if_empty t4 (record { level = level; run = record { from = from; to = to; count = count } }) ≡ Some l → IsLine t0 l
unfolding run_text
line_from t0 t1 t2 t3 [] level from to count l h0 h1 h2 h3 h =
    let read : RunLine = record { level = level; run = record { from = from; to = to; count = count } } in
    let P : RunLine → Type 0 = IsLine t0 in
    let text_is : t0 ≡ run_text read = rw (h0, h1.0, h2.0, h3.0, append-nil (digits 4 count)) refl in
    let same : read ≡ l = same_Some read l h in
    subst P same (record { text = text_is; fits = record { from = h1.1; to = h2.1; count = h3.1 } })
line_from t0 t1 t2 t3 (b ∷ bs) level from to count l h0 h1 h2 h3 h = cc

-- the run that is read is what the line says
pub line_takes : (text : List ℕ) (l : RunLine) → line_of text ≡ Some l → IsLine text l
unfolding line_of
line_takes text l h =
    let a = then_some (level_at text) _ l h in
    let b = then_some (number_at a.0.1) _ l a.2 in
    let c = then_some (number_at b.0.1) _ l b.2 in
    let d = then_some (number_at c.0.1) _ l c.2 in
    line_from text a.0.1 b.0.1 c.0.1 d.0.1 a.0.0 b.0.0 c.0.0 d.0.0 l (level_at_takes text a.0.0 a.0.1 a.1)
    (number_at_takes a.0.1 b.0.0 b.0.1 b.1) (number_at_takes b.0.1 c.0.0 c.0.1 c.1) (number_at_takes c.0.1 d.0.0 d.0.1 d.1) d.2

-- ---- What is written is read

-- a digit of a level is read
level_at-digit : (level : Level) (rest : List ℕ) → level_at ((48 + level_number level) ∷ rest) ≡ Some (level, rest)
unfolding level_at
level_at-digit One rest = refl
level_at-digit Two rest = refl
level_at-digit Three rest = refl

-- four digits are read
number_at-digits : (n : ℕ) (rest : List ℕ) → n < 0x1_0000 → number_at (32 ∷ (digits 4 n ++ rest)) ≡ Some (n, rest)
unfolding number_at
number_at-digits n rest h =
    let four = length-digits 4 n in
    rw (take_at (digits 4 n) rest 4 four, drop_at (digits 4 n) rest 4 four, weight_of-digits n h) refl

-- what a line says is read
pub line_again : (text : List ℕ) (l : RunLine) → IsLine text l → line_of text ≡ Some l
unfolding line_of run_text
line_again text l h =
    let last = number_at-digits l.run.count [] h.fits.count in
    let middle = number_at-digits l.run.to (32 ∷ digits 4 l.run.count) h.fits.to in
    let first = number_at-digits l.run.from (32 ∷ (digits 4 l.run.to ++ 32 ∷ digits 4 l.run.count)) h.fits.from in
    let end : number_at (32 ∷ digits 4 l.run.count) ≡ Some (l.run.count, []) = ap (λ z. number_at (32 ∷ z)) (sym (append-nil (digits 4 l.run.count))) ∙ last in
    rw (h.text, level_at-digit l.level, first, middle, end) refl

-- ---- What follows

-- a line says one run
pub line_same : (text : List ℕ) (l m : RunLine) → IsLine text l → IsLine text m → l ≡ m
line_same text l m h k = same_Some l m (sym (line_again text l h) ∙ line_again text m k)

-- of what nothing is read, that says no run
pub no_line : (text : List ℕ) → None ≡ line_of text → (l : RunLine) → ¬ (IsLine text l)
no_line text h l k = let e = h ∙ line_again text l k in cc

-- ---- The text of a line

-- byte by byte
pub run_line_is : (level : Level) (run : Run) (digit : ℕ) (f t c : List ℕ) → digit ≡ 48 + level_number level → f ≡ digits 4 run.from → t ≡ digits 4 run.to
    → c ≡ digits 4 run.count
    → digit ∷ 32 ∷ get_or f 0 0 ∷ get_or f 1 0 ∷ get_or f 2 0 ∷ get_or f 3 0 ∷ 32 ∷ get_or t 0 0 ∷ get_or t 1 0 ∷ get_or t 2 0 ∷ get_or t 3 0 ∷ 32 ∷
    get_or c 0 0 ∷ get_or c 1 0 ∷ get_or c 2 0 ∷ get_or c 3 0 ∷ 10 ∷ [] ≡ ended (run_text (record { level = level; run = run }))
unfolding run_text
run_line_is level run digit f t c d hf ht hc = rw (d, hf, ht, hc, four_digits_are run.from, four_digits_are run.to, four_digits_are run.count) refl

-- it has 16 bytes
pub length-run_text : (l : RunLine) → length (run_text l) ≡ 16
unfolding run_text
length-run_text l =
    let tail : List ℕ = 32 ∷ (digits 4 l.run.to ++ 32 ∷ digits 4 l.run.count) in
    omega (
      arith,
      length-append (digits 4 l.run.from) tail,
      length-append (digits 4 l.run.to) (32 ∷ digits 4 l.run.count),
      length-digits 4 l.run.from,
      length-digits 4 l.run.to,
      length-digits 4 l.run.count,
    )

-- a byte above LF is none
not_lf : (b : ℕ) → 10 < b → is_lf b ≡ false
not_lf b h = grind (arith, nat_tests)

-- digits lie above it
upper_digit_is_high : (d : ℕ) → 10 < upper_digit d
upper_digit_is_high d = grind (arith, nat_tests)

-- so there is no LF among digits
digits_lack_lf : (n : ℕ) → Lacks is_lf (digits 4 n)
digits_lack_lf n =
    let digit = λ (m : ℕ). not_lf (last_digit m) (upper_digit_is_high (m % 16)) in
    rw (four_digits_are n) (digit (n / 0x1000), (digit (n / 0x100), (digit (n / 16), (digit n, tt))))

-- nor is one the digit of a level
level_lacks_lf : (level : Level) → is_lf (48 + level_number level) ≡ false
level_lacks_lf One = refl
level_lacks_lf Two = refl
level_lacks_lf Three = refl

-- it has no LF
pub run_text_lacks_lf : (l : RunLine) → Lacks is_lf (run_text l)
unfolding run_text
run_text_lacks_lf l = (
  level_lacks_lf l.level,
  (
    refl,
    Lacks-append is_lf (digits 4 l.run.from) _ (digits_lack_lf l.run.from)
        (refl, Lacks-append is_lf (digits 4 l.run.to) _ (digits_lack_lf l.run.to) (refl, digits_lack_lf l.run.count)),
  ),
)
