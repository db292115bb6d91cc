-- How the key of a row is read code point by code point, and when it is too long.
use Rattle.std.proofs.Common.{◌≡◌, ℕ, ◌<◌, ◌≤◌, Bool, true, false, ◌&&◌, ◌==◌, List, [], ◌∷◌, ◌++◌, length, Some, refl, ap, sym, subst, ◌∙◌, arith, length-append}
use Rattle.std.proofs.lemmas.List.{nil_from_length}
use borrow.Author.Tests.{eqb-true, leb-true}
use Rattle.uca_values.specs.declared.faults.FaultKind.TheVariants as kinds
use Rattle.uca_lines.specs.Fields.{skip_blanks, word_of, after_word}
use Rattle.uca_lines.specs.Numbers.{is_code_point, code_point_of}
use Rattle.uca_lines.specs.Leads.{Leads, BeginsCodePoint}
use Rattle.uca_lines.proofs.FieldLemmas.{length-after_word}
use Rattle.uca_lines.proofs.LeadLemmas.{leads_push}
use Rattle.uca_table.specs.Rows.{IsKey, KeyCause}

pub code_point_begins : (text word : List ℕ) (c : ℕ) (more : List ℕ) → Some c ≡ code_point_of word → word ≡ word_of text → more ≡ after_word text
    → BeginsCodePoint text c more
code_point_begins text word c more h w m = record { word = ap code_point_of (sym w) ∙ sym h; rest = sym m }

front_true : (a b c d : Bool) → (a && b && c && d) ≡ true → a ≡ true
front_true true b c d h = refl
front_true false b c d h = h

-- a word that is a code point is not empty
word_is_some : (word : List ℕ) (c : ℕ) → code_point_of word ≡ Some c → 4 ≤ length word
word_is_some word c h = cases (is_code_point word) refl
  where
    cases : (v : Bool) → is_code_point word ≡ v → 4 ≤ length word
    cases true e = leb-true 4 (length word) (front_true _ _ _ _ e)
    cases false e = let k = rw e at h in cc

pub after_code_point : (text : List ℕ) (c : ℕ) (more : List ℕ) → BeginsCodePoint text c more → length more < length text
after_code_point text c more h = omega (arith, word_is_some (word_of text) c h.word, length-after_word text, ap length h.rest)

pub key_limit_cause : (text front rest : List ℕ) (c : ℕ) (more : List ℕ) → Leads BeginsCodePoint text front rest → 16 ≤ length front
    → BeginsCodePoint rest c more → KeyCause text kinds.Limit
key_limit_cause text front rest c more h l b =
    (front ++ c ∷ [], skip_blanks more, leads_push BeginsCodePoint text front rest c more h b, omega (arith, length-append front (c ∷ [])))

-- there is none
pub no_key_cause : (text front rest : List ℕ) → Leads BeginsCodePoint text front rest → (length rest == 0) ≡ true
    → length front ≡ 0 → KeyCause text kinds.Line
no_key_cause text [] rest h none e = h ∙ nil_from_length rest (eqb-true (length rest) 0 none)
no_key_cause text (x ∷ xs) rest h none e = absurd (omega (arith, e))

-- nothing is left of the text
pub whole_key : (text key rest : List ℕ) → Leads BeginsCodePoint text key rest → length key ≤ 16
    → (length rest == 0) ≡ true → 1 ≤ length key → IsKey text key
whole_key text key rest h few none some = record {
  points = subst (λ (r : List ℕ). Leads BeginsCodePoint text key r) (nil_from_length rest (eqb-true (length rest) 0 none)) h;
  some = some;
  few = few;
}
