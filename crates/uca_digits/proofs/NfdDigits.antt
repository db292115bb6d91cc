-- What a code point that is no digit decomposes to has no digit.
use Rattle.std.proofs.Common.{◌≡◌, ℕ, ◌+◌, ◌-◌, ◌/◌, ◌%◌, ◌<◌, Bool, true, false, not, List, [], ◌∷◌, refl, sym, subst, inl, inr, arith}
use Rattle.std.proofs.lemmas.Bool.{cases_Bool, cases_eq, cond-false, and_from}
use Rattle.std.proofs.lemmas.Bool.Decides.{nat_tests}
use Rattle.std.specs.List.{list_all}
use Rattle.ucd_table.proofs.Computing.{tables}
use Rattle.ucd_table.proofs.RangedFacts.{values_ok, Stepped-at_values}
use Rattle.ucd_normal.specs.Decomposition.{or_itself, canonical_decomposition}
use Rattle.ucd_normal.proofs.DecompositionLemmas.{canonical_decomposition_stepped}
use Rattle.unicode_normalization.specs.Forms.{Nfd}
use Rattle.unicode_normalization.specs.Decompose.{decompose}
use Rattle.unicode_normalization.specs.Hangul.{is_syllable, decompose_hangul}
use Rattle.unicode_normalization.proofs.DecomposeLemmas.{decompose-syllable}
use Rattle.unicode_normalization.proofs.HangulLemmas.{is_syllable-true, decompose_hangul-two, decompose_hangul-three}
use Rattle.uca_numbers.specs.Numbers.{is_digit}

-- the test that a code point is no digit
abbrev pub other : ℕ → Bool
other c = not (is_digit c)

-- no mapping has a digit
mapped_others : (c : ℕ) → list_all other (canonical_decomposition c) ≡ true
unfolding tables values_ok canonical_decomposition_stepped
mapped_others c = Stepped-at_values canonical_decomposition canonical_decomposition_stepped (λ v. list_all other v) refl c

other_above : (c : ℕ) → 0x39 < c → other c ≡ true
other_above c above = grind (arith, nat_tests)

-- nor has a Hangul syllable
syllable_others : (c : ℕ) → is_syllable c ≡ true → list_all other (decompose_hangul c) ≡ true
syllable_others c h =
    let range = is_syllable-true c h in
    let l : other (0x1100 + (c - 0xAC00) / 588) ≡ true = other_above (0x1100 + (c - 0xAC00) / 588) (omega arith) in
    let v : other (0x1161 + (c - 0xAC00) % 588 / 28) ≡ true = other_above (0x1161 + (c - 0xAC00) % 588 / 28) (omega arith) in
    let t : other (0x11A7 + (c - 0xAC00) % 28) ≡ true = other_above (0x11A7 + (c - 0xAC00) % 28) (omega arith) in
    elim (cases_eq ((c - 0xAC00) % 28) 0) [
      | inl two ↦ subst (λ parts. list_all other parts ≡ true) (sym (decompose_hangul-two c two)) (and_from _ _ l (and_from _ _ v refl))
      | inr three ↦ subst (λ parts. list_all other parts ≡ true) (sym (decompose_hangul-three c three)) (and_from _ _ l (and_from _ _ v (and_from _ _ t refl)))
    ]

-- a code point that has no mapping stays
or_itself_others : (c : ℕ) (parts : List ℕ) → other c ≡ true → list_all other parts ≡ true → list_all other (or_itself c parts) ≡ true
or_itself_others c [] own all = and_from _ _ own refl
or_itself_others c (part ∷ parts) own all = all

-- what is no syllable decomposes by the table
by_table : (c : ℕ) → is_syllable c ≡ false → decompose Nfd c ≡ or_itself c (canonical_decomposition c)
unfolding decompose
by_table c none = cond-false _ _ _ none

pub decomposed_others : (c : ℕ) → other c ≡ true → list_all other (decompose Nfd c) ≡ true
decomposed_others c own =
    elim (cases_Bool (is_syllable c)) [
      | inl syllable ↦ subst (λ parts. list_all other parts ≡ true) (sym (decompose-syllable Nfd c syllable)) (syllable_others c syllable)
      | inr none ↦
          subst (λ parts. list_all other parts ≡ true) (sym (by_table c none)) (or_itself_others c (canonical_decomposition c) own (mapped_others c))
    ]
