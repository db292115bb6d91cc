-- How many code points a text has in Normalization Form D.
use Rattle.std.proofs.Common.{◌≡◌, ℕ, ◌-◌, ◌*◌, ◌%◌, ◌≤◌, false, List, [], ◌∷◌, length, ap, sym, subst, inl, inr, arith, length-append}
use Rattle.std.specs.List.{flat_map}
use Rattle.std.proofs.lemmas.Bool.{cases_Bool, cases_eq, cond-false}
use Rattle.ucd_normal.specs.Decomposition.{or_itself, canonical_decomposition}
use Rattle.ucd_normal.proofs.BoundLemmas.{length-canonical_decomposition}
use Rattle.unicode_normalization.specs.Forms.{Nfd, nfd, decomposed}
use Rattle.unicode_normalization.specs.Decompose.{decompose}
use Rattle.unicode_normalization.specs.Hangul.{is_syllable, decompose_hangul}
use Rattle.unicode_normalization.proofs.DecomposeLemmas.{decompose-syllable}
use Rattle.unicode_normalization.proofs.HangulLemmas.{decompose_hangul-two, decompose_hangul-three}
use Rattle.unicode_normalization.proofs.OrderLemmas.{length-canonical_order}
use Rattle.unicode_normalization.proofs.FormsLemmas.{normalize-Nfd}

syllable_length : (c : ℕ) → length (decompose_hangul c) ≤ 4
syllable_length c =
    elim (cases_eq ((c - 0xAC00) % 28) 0) [
      | inl two ↦ omega (arith, ap length (decompose_hangul-two c two))
      | inr three ↦ omega (arith, ap length (decompose_hangul-three c three))
    ]

or_itself_length : (c : ℕ) (xs : List ℕ) → length xs ≤ 4 → length (or_itself c xs) ≤ 4
or_itself_length c [] h = omega arith
or_itself_length c (x ∷ xs) h = h

decompose-other : (c : ℕ) → is_syllable c ≡ false → decompose Nfd c ≡ or_itself c (canonical_decomposition c)
unfolding decompose
decompose-other c other = cond-false _ _ _ other

-- a code point decomposes into at most four
pub decompose_length : (c : ℕ) → length (decompose Nfd c) ≤ 4
decompose_length c =
    let Short : List ℕ → Type 0 = λ l. length l ≤ 4 in
    elim (cases_Bool (is_syllable c)) [
      | inl syllable ↦ subst Short (sym (decompose-syllable Nfd c syllable)) (syllable_length c)
      | inr other ↦ subst Short (sym (decompose-other c other)) (or_itself_length c _ (length-canonical_decomposition c))
    ]

decompositions_length : (xs : List ℕ) → length (flat_map (decompose Nfd) xs) ≤ 4 * length xs
decompositions_length [] = omega arith
decompositions_length (x ∷ xs) =
    omega (arith, length-append (decompose Nfd x) (flat_map (decompose Nfd) xs), decompose_length x, decompositions_length xs)

-- Normalization Form D has at most four code points for each of the text
pub nfd_length : (xs : List ℕ) → length (nfd xs) ≤ 4 * length xs
unfolding decomposed
nfd_length xs =
    omega (arith, ap length (normalize-Nfd xs), length-canonical_order (flat_map (decompose Nfd) xs), decompositions_length xs)
