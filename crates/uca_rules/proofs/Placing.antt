-- Characters and their codes: one more, and all of them.
use Rattle.std.proofs.Common.{◌≡◌, ◌≢◌, ℕ, zero, suc, ◌+◌, ◌<◌, Bool, true, false, List, [], ◌∷◌, ◌++◌, length, get_or, take, chars, refl, ap, sym, ◌∙◌, arith}
use Rattle.std.specs.Str.{IsUtf8, bytes_eq}
use lib.Utf8.{encode}
use Rattle.std.proofs.lemmas.Str.{chars_past_char, length-encode, chars-nil}
use Rattle.std.proofs.lemmas.List.{append_assoc, append-nil, nil_from_length, take_more}
use Rattle.std.proofs.lemmas.Slice.Eq.{bytes_eq-Decides}
use Rattle.uca_rules.specs.declared.characters.Character.{Character}
use Rattle.uca_rules.specs.Characters.{placed_from, codes_of}

-- one more character of a text
pub placed_more : (cs : List Character) (at code place next : ℕ) (text rest : List ℕ) → IsUtf8 text → text ≡ encode code ++ rest → place ≡ at →
    next ≡ at + length (encode code) → (cs ++ record { code = code; place = place } ∷ []) ++ placed_from next (chars rest) ≡ cs ++ placed_from at (chars text)
placed_more cs at code place next text rest utf8 is here further =
    rw (here, further, length-encode, append_assoc, chars_past_char text rest code utf8 is) refl

-- at the end
pub placed_all : (cs : List Character) (at : ℕ) (text : List ℕ) → length text ≡ 0 → cs ++ placed_from at (chars text) ≡ cs
placed_all cs at text none = rw (nil_from_length text none, chars-nil, append-nil) refl

pub codes-append : (xs ys : List Character) → codes_of (xs ++ ys) ≡ codes_of xs ++ codes_of ys
codes-append [] ys = refl
codes-append (x ∷ xs) ys = ap (λ zs. x.code ∷ zs) (codes-append xs ys)

pub length-codes : (cs : List Character) → length (codes_of cs) ≡ length cs
length-codes [] = refl
length-codes (c ∷ cs) = ap suc (length-codes cs)

-- the codes of one more character
pub codes_more : (cs : List Character) (i : ℕ) (d : Character) → i < length cs → codes_of (take (i + 1) cs) ≡ codes_of (take i cs) ++ (get_or cs i d).code ∷ []
codes_more cs i d small = ap codes_of (take_more cs i d small) ∙ codes-append (take i cs) (get_or cs i d ∷ [])

pub code_at : (cs : List Character) (n i : ℕ) (d : Character) → i < n → i < length cs → get_or (codes_of (take n cs)) i 0 ≡ (get_or cs i d).code
code_at [] n i d here small = absurd (omega arith)
code_at (c ∷ cs) zero i d here small = absurd (omega arith)
code_at (c ∷ cs) (suc n) zero d here small = refl
code_at (c ∷ cs) (suc n) (suc i) d here small = code_at cs n i d (omega arith) (omega arith)

-- what is read past the end
abbrev pub no_character : Character
no_character = record { code = 0; place = 0 }

-- texts that differ at a byte, and texts that are the same
pub other_bytes : (xs ys : List ℕ) (i x y : ℕ) → get_or xs i 0 ≡ x → y ≡ get_or ys i 0 → x ≢ y → false ≡ bytes_eq xs ys
other_bytes xs ys i x y here there other = cases (bytes_eq xs ys) refl
  where
    cases : (b : Bool) → bytes_eq xs ys ≡ b → false ≡ b
    cases true e = absurd (other (sym here ∙ (ap (λ zs. get_or zs i 0) ((bytes_eq-Decides xs ys).0 e) ∙ sym there)))
    cases false e = refl

pub same_bytes : (xs ys : List ℕ) → xs ≡ ys → true ≡ bytes_eq xs ys
same_bytes xs ys same = sym ((bytes_eq-Decides xs ys).1 same)

-- two texts, and the first is shorter
pub other_length : (xs ys : List ℕ) → length xs < length ys → false ≡ bytes_eq xs ys
other_length xs ys fewer = cases (bytes_eq xs ys) refl
  where
    cases : (b : Bool) → bytes_eq xs ys ≡ b → false ≡ b
    cases true e = absurd (omega (arith, fewer, ap length ((bytes_eq-Decides xs ys).0 e)))
    cases false e = refl
