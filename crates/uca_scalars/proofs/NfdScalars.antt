-- Normalization Form D of Unicode scalar values has such values alone.
use Rattle.std.proofs.Common.{◌≡◌, ℕ, ◌+◌, ◌-◌, ◌/◌, ◌%◌, true, false, List, [], ◌∷◌, flat_map, refl, sym, subst, inl, inr, arith}
use Rattle.std.proofs.lemmas.Bool.{cases_Bool, cases_eq, cond-false, and_parts, and_from}
use Rattle.std.specs.Char.{IsScalar}
use Rattle.std.specs.List.{list_all, AllByRecursion}
use lib.Utf8.{scalar, scalars, low_scalar}
use Rattle.ucd_table.proofs.Computing.{tables}
use Rattle.ucd_table.proofs.RangedFacts.{values_ok, Stepped-at_values}
use Rattle.ucd_normal.specs.Decomposition.{or_itself, canonical_decomposition}
use Rattle.ucd_normal.proofs.DecompositionLemmas.{canonical_decomposition_stepped}
use Rattle.unicode_normalization.specs.Forms.{nfd, Nfd, normalize, decomposed}
use Rattle.unicode_normalization.specs.Decompose.{decompose}
use Rattle.unicode_normalization.specs.Hangul.{is_syllable, decompose_hangul}
use Rattle.unicode_normalization.proofs.ComposeLemmas.{list_all-append}
use Rattle.unicode_normalization.proofs.DecomposeLemmas.{decompose-syllable}
use Rattle.unicode_normalization.proofs.HangulLemmas.{is_syllable-true, decompose_hangul-two, decompose_hangul-three}
use Rattle.unicode_normalization.proofs.OrderLemmas.{list_all-canonical_order}

-- the mapping of a code point has only scalar values
mapped_scalars : (c : ℕ) → list_all scalar (canonical_decomposition c) ≡ true
unfolding tables values_ok canonical_decomposition_stepped
mapped_scalars c = Stepped-at_values canonical_decomposition canonical_decomposition_stepped (λ v. list_all scalar v) refl c

-- and so does the decomposition of a Hangul syllable
syllable_scalars : (c : ℕ) → is_syllable c ≡ true → list_all scalar (decompose_hangul c) ≡ true
syllable_scalars c h =
    let range = is_syllable-true c h in
    let l : scalar (0x1100 + (c - 0xAC00) / 588) ≡ true = low_scalar (0x1100 + (c - 0xAC00) / 588) (omega (arith, range)) in
    let v : scalar (0x1161 + (c - 0xAC00) % 588 / 28) ≡ true = low_scalar (0x1161 + (c - 0xAC00) % 588 / 28) (omega (arith, range)) in
    let t : scalar (0x11A7 + (c - 0xAC00) % 28) ≡ true = low_scalar (0x11A7 + (c - 0xAC00) % 28) (omega (arith, range)) in
    elim (cases_eq ((c - 0xAC00) % 28) 0) [
      | inl two ↦ subst (λ parts. list_all scalar parts ≡ true) (sym (decompose_hangul-two c two)) (and_from _ _ l (and_from _ _ v refl))
      | inr three ↦ subst (λ parts. list_all scalar parts ≡ true) (sym (decompose_hangul-three c three)) (and_from _ _ l (and_from _ _ v (and_from _ _ t refl)))
    ]

-- a code point that has no mapping stays
or_itself_scalars : (c : ℕ) (parts : List ℕ) → scalar c ≡ true → list_all scalar parts ≡ true → list_all scalar (or_itself c parts) ≡ true
or_itself_scalars c [] own all = and_from _ _ own refl
or_itself_scalars c (part ∷ parts) own all = all

-- what is no syllable decomposes by the table
decompose-mapping : (c : ℕ) → is_syllable c ≡ false → decompose Nfd c ≡ or_itself c (canonical_decomposition c)
unfolding decompose
decompose-mapping c other = cond-false _ _ _ other

-- what a scalar value decomposes to
decomposed_scalars : (c : ℕ) → scalar c ≡ true → list_all scalar (decompose Nfd c) ≡ true
decomposed_scalars c own =
    elim (cases_Bool (is_syllable c)) [
      | inl syllable ↦ subst (λ parts. list_all scalar parts ≡ true) (sym (decompose-syllable Nfd c syllable)) (syllable_scalars c syllable)
      | inr other ↦
          subst (λ parts. list_all scalar parts ≡ true) (sym (decompose-mapping c other)) (or_itself_scalars c (canonical_decomposition c) own (mapped_scalars c))
    ]

-- and so each of several
flat_scalars : (points : List ℕ) → scalars points ≡ true → list_all scalar (flat_map (decompose Nfd) points) ≡ true
flat_scalars [] all = refl
flat_scalars (c ∷ points) all =
    let parts = and_parts (scalar c) (scalars points) all in
    list_all-append scalar (decompose Nfd c) (flat_map (decompose Nfd) points) (decomposed_scalars c parts.0) (flat_scalars points parts.1)

-- the code points of Normalization Form D are in canonical order
nfd_scalars : (points : List ℕ) → scalars points ≡ true → list_all scalar (nfd points) ≡ true
unfolding normalize decomposed
nfd_scalars points all = list_all-canonical_order scalar (flat_map (decompose Nfd) points) (flat_scalars points all)

-- each is one
each_scalar : (points : List ℕ) → list_all scalar points ≡ true → AllByRecursion IsScalar points
each_scalar [] all = tt
each_scalar (c ∷ points) all = let parts = and_parts (scalar c) (list_all scalar points) all in (parts.0, each_scalar points parts.1)

pub each_nfd_scalar : (points : List ℕ) → scalars points ≡ true → AllByRecursion IsScalar (nfd points)
each_nfd_scalar points all = each_scalar (nfd points) (nfd_scalars points all)

-- each is one, so all are
scalars_from : (points : List ℕ) → list_all scalar points ≡ true → scalars points ≡ true
scalars_from [] all = refl
scalars_from (c ∷ points) all = let parts = and_parts (scalar c) (list_all scalar points) all in and_from _ _ parts.0 (scalars_from points parts.1)

-- the law
pub normal_scalars : (points : List ℕ) → scalars points ≡ true → scalars (nfd points) ≡ true
normal_scalars points all = scalars_from (nfd points) (nfd_scalars points all)
