-- Bits of code points: more room changes none, and a bit that is set changes no other.
use Rattle.std.proofs.Common.{◌≡◌, ℕ, ◌*◌, ◌/◌, ◌%◌, ◌^◌, ◌<◌, ◌==◌, ◌⊎◌, Bool, true, false, cond, List, [], ◌∷◌, ◌++◌, zero, suc, length, get_or, set, refl, ap, sym, ◌∙◌, ⊎_elim, arith, eq-eqb}
use Rattle.std.specs.List.{AllByRecursion}
use Rattle.std.specs.Int.{bit_at}
use Rattle.std.specs.Int.RustNames.{bit_or}
use Rattle.std.specs.Str.{bytes_eq}
use Rattle.std.specs.Cmp.Lexicographic.{bytes_decides}
use Rattle.std.proofs.lemmas.Bool.{cases_eq, false_from_ne_true, eqb-true}
use Rattle.std.proofs.lemmas.List.{get_or-set_same, get_or-set_other}
use Rattle.std.proofs.lemmas.Nat.Bits.{bit_at_set_same, bit_at_set_other}
use mir.Syntax.{w64}
use Rattle.uca_table.specs.inside.Keeping.{has_bit, is_kept}

-- ---- Room for more words

-- words that are 0 at the end
get_or-zeros : (words zeros : List ℕ) → AllByRecursion (λ y. (y ≡ 0) ⊎ (y ≡ 0)) zeros → (i : ℕ) → get_or (words ++ zeros) i 0 ≡ get_or words i 0
get_or-zeros [] [] h i = refl
get_or-zeros [] (z ∷ zs) h zero = ⊎_elim (λ e. e) (λ e. e) h.0
get_or-zeros [] (z ∷ zs) h (suc i) = get_or-zeros [] zs h.1 i
get_or-zeros (w ∷ ws) zs h zero = refl
get_or-zeros (w ∷ ws) zs h (suc i) = get_or-zeros ws zs h i

pub has_bit-zeros : (words zeros now : List ℕ) → now ≡ words ++ zeros → AllByRecursion (λ y. (y ≡ 0) ⊎ (y ≡ 0)) zeros → (point : ℕ)
    → has_bit now point ≡ has_bit words point
has_bit-zeros words zeros now e h point =
    ap (λ ws. has_bit ws point) e ∙ ap (λ w. bit_at w (point % 64) == 1) (get_or-zeros words zeros h (point / 64))

-- ---- One more bit

different : (a b : ℕ) → (a ≡ b → ⊥) → (a == b) ≡ false
different a b h = false_from_ne_true _ (λ e. h (eqb-true a b e))

-- the word with the bit of a code point
abbrev pub with_bit : ℕ → ℕ → ℕ
with_bit word code = bit_or word (1 * 2 ^ (code % 64) % 2 ^ 64)

-- what a word with one more bit says of the code points of that word
bit_in_word : (word code other : ℕ) → other / 64 ≡ code / 64
    → (bit_at (with_bit word code) (other % 64) == 1) ≡ cond (code == other) true (bit_at word (other % 64) == 1)
bit_in_word word code other e = ⊎_elim same apart (cases_eq (other % 64) (code % 64))
  where
    same : other % 64 ≡ code % 64 → (bit_at (with_bit word code) (other % 64) == 1) ≡ cond (code == other) true (bit_at word (other % 64) == 1)
    same h =
        let k : code ≡ other = omega arith in
        rw (h, bit_at_set_same w64 word (code % 64) (omega arith), eq-eqb code other k) refl

    apart : (other % 64 ≡ code % 64 → ⊥) → (bit_at (with_bit word code) (other % 64) == 1) ≡ cond (code == other) true (bit_at word (other % 64) == 1)
    apart h =
        rw (
          bit_at_set_other w64 word (code % 64) (omega arith) (other % 64) h,
          different code other (λ k. h (ap (λ n. n % 64) (sym k))),
        ) refl

-- the words with that bit
abbrev pub with_point : List ℕ → ℕ → List ℕ
with_point words code = set words (code / 64) (with_bit (get_or words (code / 64) 0) code)

pub has_bit-set : (words : List ℕ) (code other : ℕ) → code / 64 < length words
    → has_bit (with_point words code) other ≡ cond (code == other) true (has_bit words other)
has_bit-set words code other small = ⊎_elim same apart (cases_eq (other / 64) (code / 64))
  where
    same : other / 64 ≡ code / 64 → has_bit (with_point words code) other ≡ cond (code == other) true (has_bit words other)
    same e =
        let word = get_or words (code / 64) 0 in
        let now = with_point words code in
        let there : get_or now (other / 64) 0 ≡ with_bit word code = ap (λ i. get_or now i 0) e ∙ get_or-set_same words (code / 64) _ 0 small in
        let before : get_or words (other / 64) 0 ≡ word = ap (λ i. get_or words i 0) e in
        rw (there, before) (bit_in_word word code other e)

    apart : (other / 64 ≡ code / 64 → ⊥) → has_bit (with_point words code) other ≡ cond (code == other) true (has_bit words other)
    apart h =
        rw (
          get_or-set_other words (code / 64) (other / 64) (with_bit (get_or words (code / 64) 0) code) 0 h,
          different code other (λ k. h (ap (λ n. n / 64) (sym k))),
        ) refl

-- ---- One more key

-- a key that is not of one code point is kept in the set
pub kept_longer : (words key : List ℕ) → (length key ≡ 1 → ⊥) → (before now : Bool) (other : List ℕ) → now ≡ cond (bytes_eq key other) true before
    → is_kept words now other ≡ cond (bytes_eq key other) true (is_kept words before other)
kept_longer words key long before now [] h = h
kept_longer words key long before now (c ∷ []) h =
    rw (false_from_ne_true (bytes_eq key (c ∷ [])) (λ e. long (ap length ((bytes_decides key (c ∷ [])).0 e)))) refl
kept_longer words key long before now (c ∷ d ∷ ds) h = h
