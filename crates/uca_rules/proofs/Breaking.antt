-- Where a text breaks off: a piece begins, and it is not a whole piece.
use Rattle.std.proofs.Common.{◌≡◌, ◌≢◌, ◌⊎◌, inl, inr, ℕ, ◌<◌, Bool, true, false, ◌&&◌, ◌==◌, IsTrue, IsFalse, List, [], ◌∷◌, ◌++◌, length, get_or, Option, Some, None, MatchOption, refl, eq-eqb, arith}
use Rattle.std.proofs.lemmas.Bool.{ne_eqb}
use Rattle.std.specs.Option.{unwrap_or}
use borrow.Author.Tests.{eqb-true}
use Rattle.uca_rules.specs.declared.characters.Character.{Character}
use Rattle.uca_rules.specs.declared.faults.RuleFaultKind.TheVariants as kinds
use Rattle.uca_rules.specs.Characters.{apostrophe, backslash, hyphen, place_of}
use Rattle.uca_rules.specs.Pieces.{Symbol, Literal, is_plain, begins_piece, piece_at, EndsText}
use Rattle.uca_rules.specs.Faults.{opened, is_part, TextCause}
use Rattle.uca_rules.specs.inside.Views.{BeginsAt, ShowsWrongHyphen}

-- of a backslash and an apostrophe, either may begin what is no piece
apostrophe_there : (starred : Bool) (c : Character) (cs : List Character) → ¬ (IsFalse (begins_piece starred c.code)) → piece_at starred (c ∷ cs) ≡ None → c.code ≢ backslash → c.code ≡ apostrophe
apostrophe_there starred c cs begins none other = by_quote (c.code == apostrophe) refl
  where
    by_hyphen : (b : Bool) → (starred && c.code == hyphen) ≡ b → (c.code == apostrophe) ≡ false → is_plain c.code ≡ false → c.code ≡ apostrophe
    by_hyphen true e quote plain = let k = rw (quote, ne_eqb c.code backslash other, plain, e) at none in let no : ⊥ = cc in absurd no
    by_hyphen false e quote plain = absurd (begins (rw (quote, ne_eqb c.code backslash other, plain, e) refl))

    by_plain : (b : Bool) → is_plain c.code ≡ b → (c.code == apostrophe) ≡ false → c.code ≡ apostrophe
    by_plain true e quote = let k = rw (quote, ne_eqb c.code backslash other, e) at none in let no : ⊥ = cc in absurd no
    by_plain false e quote = by_hyphen (starred && c.code == hyphen) refl quote e

    by_quote : (b : Bool) → (c.code == apostrophe) ≡ b → c.code ≡ apostrophe
    by_quote true e = eqb-true c.code apostrophe e
    by_quote false e = by_plain (is_plain c.code) refl e

pub breaks_at : (starred : Bool) (cs : List Character) (d : Character) → ¬ (EndsText starred cs) → piece_at starred cs ≡ None → (get_or cs 0 d).code ≢ backslash → BeginsAt apostrophe cs (get_or cs 0 d).place
breaks_at starred [] d begins none other = absurd (begins tt)
breaks_at starred (c ∷ cs) d begins none other = record { first = c; after = cs; are = refl; is = apostrophe_there starred c cs begins none other; at = refl }

-- Where a text does not end there is a character.
pub some_character : (starred : Bool) (cs : List Character) → ¬ (EndsText starred cs) → 0 < length cs
some_character starred [] begins = absurd (begins tt)
some_character starred (c ∷ cs) begins = omega arith

-- A first character that is a backslash is where an escape begins.
pub escape_at : (cs : List Character) (d : Character) → 0 < length cs → (get_or cs 0 d).code ≡ backslash → BeginsAt backslash cs (get_or cs 0 d).place
escape_at [] d within is = absurd (omega arith)
escape_at (c ∷ cs) d within is = record { first = c; after = cs; are = refl; is = is; at = refl }

opened_there : (cs : List Character) (d : Character) → 1 < length cs → (get_or cs 0 d).code ≡ apostrophe → (get_or cs 1 d).code ≢ apostrophe → opened cs ≡ Literal (get_or cs 1 d) ∷ []
opened_there [] d within quote other = absurd (omega arith)
opened_there (c ∷ []) d within quote other = absurd (omega arith)
opened_there (c ∷ e ∷ cs) d within quote other = rw (eq-eqb c.code apostrophe quote, ne_eqb e.code apostrophe other) refl

-- a character in quotes that have no end may show that the hyphen before them is wrong
pub breaks_there : (starred : Bool) (symbols : List Symbol) (cs : List Character) (d c : Character) (So : Type 0) (found : Option ℕ) (place : ℕ) → IsTrue starred →
    BeginsAt apostrophe cs (get_or cs 0 d).place → 1 < length cs → c ≡ get_or cs 1 d → c.code ≢ apostrophe → MatchOption found So (ShowsWrongHyphen (symbols ++ Literal c ∷ [])) →
    place ≡ unwrap_or found (get_or cs 0 d).place → BeginsAt apostrophe cs place ⊎ (IsTrue starred × ShowsWrongHyphen (symbols ++ opened cs) place)
breaks_there starred symbols cs d c So None place star quote within is other h at = inl (rw at quote)
breaks_there starred symbols [] d c So (Some wrong) place star quote within is other h at = absurd (omega arith)
breaks_there starred symbols (x ∷ xs) d c So (Some wrong) place star quote within is other h at =
    let first : x.code ≡ apostrophe = (let e : x ≡ quote.first = cc (quote.are) in rw e quote.is) in
    inr (star, rw (opened_there (x ∷ xs) d within first (rw (← is) other), ← is, at) h)

-- a character with which no text begins
pub no_text : (end : ℕ) (starred : Bool) (text : List Character) (d : Character) (place : ℕ) → 0 < length text → IsFalse (is_part (get_or text 0 d).code) →
    IsFalse (begins_piece starred (get_or text 0 d).code) → place ≡ place_of end text → TextCause end starred text place kinds.Syntax
no_text end starred [] d place within part piece at = absurd (omega arith)
no_text end false (c ∷ cs) d place within part piece at = inl ((part, piece), at)
no_text end true (c ∷ cs) d place within part piece at = inl ((part, piece), at)
