-- With which character a sign and a bracket of rules begin, and how long a bracket is.
use Rattle.std.proofs.Common.{◌≡◌, ◌≢◌, ◌⊎◌, ℕ, suc, ◌≤◌, List, [], ◌∷◌, length, take, codes, true, Option, None, Some, option_map, inl, inr, refl, ap, ◌∙◌, subst, arith}
use Rattle.std.specs.Prelude.{if◌then◌else◌, ◌==◌, IfSome}
use Rattle.std.specs.Str.{bytes_eq}
use Rattle.std.proofs.lemmas.Bool.{cond_both, eqb-true, ne_eqb}
use Rattle.std.proofs.lemmas.List.{length-take}
use Rattle.std.proofs.lemmas.Slice.Eq.{bytes_eq-Decides}
use Rattle.uca_weights.specs.declared.Strength.{Strength}
use Rattle.uca_weights.specs.declared.Strength.TheVariants.{Primary, Secondary, Tertiary, Identical}
use Rattle.uca_rules.specs.declared.characters.Character.{Character}
use Rattle.uca_rules.specs.Characters.{codes_of, ampersand, less_than, equals_sign, bracket}
use Rattle.uca_rules.specs.Statements.{SignAt, perhaps_starred, count_less, after_less, strength_of, sign_at, bracket_of, bracket_at, IsNotAt}
use Rattle.uca_rules.proofs.Placing.{length-codes}

-- ---- Signs

-- what a sign begins with
abbrev pub BeginsSign : ℕ → Type 0
BeginsSign code = (code ≡ less_than) ⊎ (code ≡ equals_sign)

-- nothing but `<` is counted
some_less : (cs : List Character) (code : ℕ) (more : List Character)
    → IfSome (option_map (λ strength. perhaps_starred strength more) (strength_of (if code == less_than then suc (count_less cs) else 0))) (λ sign. BeginsSign code)
some_less cs code more =
    cond_both (code == less_than) (suc (count_less cs)) 0 (λ n. IfSome (option_map (λ strength. perhaps_starred strength more) (strength_of n)) (λ sign. BeginsSign code))
    (λ is. any (option_map (λ strength. perhaps_starred strength more) (strength_of (suc (count_less cs)))) (inl (eqb-true code less_than is))) (λ other. tt)
  where
    any : (sign : Option SignAt) → BeginsSign code → IfSome sign (λ sign. BeginsSign code)
    any None begins = tt
    any (Some sign) begins = begins

begins_sign : (c : Character) (cs : List Character) → IfSome (sign_at (c ∷ cs)) (λ sign. BeginsSign c.code)
begins_sign c cs =
    cond_both (c.code == equals_sign) (Some (perhaps_starred Identical cs)) (option_map (λ strength. perhaps_starred strength (after_less (c ∷ cs))) (strength_of (count_less (c ∷ cs))))
    (λ sign. IfSome sign (λ sign. BeginsSign c.code)) (λ is. inr (eqb-true c.code equals_sign is)) (λ other. some_less cs c.code (after_less (c ∷ cs)))

-- a sign begins with `<` or `=`
pub sign_begins : (c : Character) (cs : List Character) (sign : SignAt) → sign_at (c ∷ cs) ≡ Some sign → BeginsSign c.code
sign_begins c cs sign is = subst (λ sign. IfSome sign (λ sign. BeginsSign c.code)) is (begins_sign c cs)

-- and not with `&`
pub no_sign_at_ampersand : (c : Character) (cs : List Character) (sign : SignAt) → c.code ≡ ampersand → sign_at (c ∷ cs) ≢ Some sign
no_sign_at_ampersand c cs sign at is = other c.code at (sign_begins c cs sign is)
  where
    other : (code : ℕ) → code ≡ ampersand → BeginsSign code → ⊥
    other code at (inl less) = omega arith
    other code at (inr equal) = omega arith

-- a `<` comes first if some are counted
pub less_begins : (c : Character) (cs : List Character) → 1 ≤ count_less (c ∷ cs) → c.code ≡ less_than
less_begins c cs some =
    (cond_both (c.code == less_than) (suc (count_less cs)) 0 (λ n. 1 ≤ n → c.code ≡ less_than) (λ is some. eqb-true c.code less_than is) (λ other some. absurd (omega arith))) some

-- four or more have no strength
strength_of_four : (n : ℕ) → 4 ≤ n → strength_of n ≡ None
strength_of_four n many =
    let one = ne_eqb n 1 (λ is. omega arith) in
    let two = ne_eqb n 2 (λ is. omega arith) in
    let three = ne_eqb n 3 (λ is. omega arith) in
    rw (one, two, three)

-- four or more `<` are no sign
pub no_sign_at_four : (cs : List Character) → 4 ≤ count_less cs → sign_at cs ≡ None
no_sign_at_four [] many = absurd (omega arith)
no_sign_at_four (c ∷ cs) many =
    let some : 1 ≤ count_less (c ∷ cs) = omega arith in
    let less : c.code ≡ less_than = less_begins c cs some in
    let other = ne_eqb c.code equals_sign (λ (is : c.code ≡ equals_sign). omega arith) in
    cond_both (c.code == equals_sign) (Some (perhaps_starred Identical cs)) (option_map (λ strength. perhaps_starred strength (after_less (c ∷ cs))) (strength_of (count_less (c ∷ cs))))
    (λ sign. sign ≡ None) (λ is. absurd cc) (λ other. ap (λ strength. option_map (λ strength. perhaps_starred strength (after_less (c ∷ cs))) strength) (strength_of_four (count_less (c ∷ cs)) many))

-- ---- Brackets

-- the text begins with `[`
abbrev BeginsSquare : List ℕ → Type 0
BeginsSquare text = (more : List ℕ) × (text ≡ bracket ∷ more)

square_at : (text all more : List ℕ) → all ≡ bracket ∷ more → bytes_eq text all ≡ true → BeginsSquare text
square_at text all more begins same = (more, (bytes_eq-Decides text all).0 same ∙ begins)

begins_square : (text : List ℕ) → IfSome (bracket_of text) (λ strength. BeginsSquare text)
begins_square text =
    cond_both (bytes_eq text (codes "[before 1]")) (Some Primary) (if bytes_eq text (codes "[before 2]") then Some Secondary else if bytes_eq text (codes "[before 3]") then Some Tertiary else None)
    (λ strength. IfSome strength (λ strength. BeginsSquare text))
    (λ same. square_at text (codes "[before 1]") (codes "before 1]") refl same)
    (λ other. cond_both (bytes_eq text (codes "[before 2]")) (Some Secondary) (if bytes_eq text (codes "[before 3]") then Some Tertiary else None)
    (λ strength. IfSome strength (λ strength. BeginsSquare text))
    (λ same. square_at text (codes "[before 2]") (codes "before 2]") refl same)
    (λ other. cond_both (bytes_eq text (codes "[before 3]")) (Some Tertiary) None
    (λ strength. IfSome strength (λ strength. BeginsSquare text))
    (λ same. square_at text (codes "[before 3]") (codes "before 3]") refl same)
    (λ other. tt)))

-- a bracket begins with `[`
pub bracket_begins : (cs : List Character) (strength : Strength) → bracket_at cs ≡ Some strength → ¬ (IsNotAt bracket cs)
bracket_begins cs strength is other = first cs (subst (λ strength. IfSome strength (λ strength. BeginsSquare (codes_of (take 10 cs)))) is (begins_square (codes_of (take 10 cs)))) other
  where
    first : (cs : List Character) → BeginsSquare (codes_of (take 10 cs)) → ¬ (IsNotAt bracket cs)
    first [] begins other = absurd (let none : [] ≡ bracket ∷ begins.0 = begins.1 in cc)
    first (c ∷ cs) begins other = other (let some : ◌≡◌ {A = List ℕ} (c.code ∷ codes_of (take 9 cs)) (bracket ∷ begins.0) = begins.1 in cc)

-- a bracket is ten characters long
ten_long : (text : List ℕ) → IfSome (bracket_of text) (λ strength. length text ≡ 10)
ten_long text =
    cond_both (bytes_eq text (codes "[before 1]")) (Some Primary)
    (if bytes_eq text (codes "[before 2]") then Some Secondary else if bytes_eq text (codes "[before 3]") then Some Tertiary else None)
    (λ found. IfSome found (λ strength. length text ≡ 10))
    (λ same. ap length ((bytes_eq-Decides text (codes "[before 1]")).0 same))
    (λ other. cond_both (bytes_eq text (codes "[before 2]")) (Some Secondary) (if bytes_eq text (codes "[before 3]") then Some Tertiary else None)
    (λ found. IfSome found (λ strength. length text ≡ 10))
    (λ same. ap length ((bytes_eq-Decides text (codes "[before 2]")).0 same))
    (λ other. cond_both (bytes_eq text (codes "[before 3]")) (Some Tertiary) None
    (λ found. IfSome found (λ strength. length text ≡ 10))
    (λ same. ap length ((bytes_eq-Decides text (codes "[before 3]")).0 same))
    (λ other. tt)))

-- so there are ten characters where one is
pub bracket_long : (cs : List Character) (strength : Strength) → bracket_at cs ≡ Some strength → 10 ≤ length cs
bracket_long cs strength is =
    let ten = subst (λ found. IfSome found (λ strength. length (codes_of (take 10 cs)) ≡ 10)) is (ten_long (codes_of (take 10 cs))) in
    omega (arith, ten, length-codes (take 10 cs), length-take 10 cs)
