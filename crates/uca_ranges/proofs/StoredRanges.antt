-- Ranges of stored keys.
use Rattle.std.proofs.Common.{◌≡◌, ◌↔◌, ◌⊎◌, inl, inr, ℕ, ◌/◌, ◌%◌, ◌<◌, ◌≤◌, List, [], ◌∷◌, ◌++◌, length, refl, ap, sym, subst, ◌∙◌, arith, append_assoc, append-nil}
use Rattle.std.specs.List.{AllByRecursion}
use Rattle.std.specs.declared.cmp.Ordering.TheVariants.{Less}
use Rattle.uca_weights.specs.declared.Depth.{Depth}
use Rattle.uca_weights.specs.declared.Depth.TheVariants.{Weights, Identical}
use Rattle.uca_weights.specs.declared.Weighting.{Weighting}
use Rattle.uca_weights.specs.declared.Weighting.TheVariants.{NonIgnorable, Shifted}
use Rattle.uca_order.specs.Levels.{lexicographic, level_count, level_bytes, levels_bytes}
use Rattle.uca_order.specs.Depths.{points_bytes}
use Rattle.uca_compact.specs.Forms.{AreWeights, AreLevels}
use Rattle.uca_compact.specs.CompactKeys.{stored_key}
use Rattle.uca_compact.proofs.Below.{IsBelow, below_less}
use Rattle.uca_ranges.specs.Ranges.{InRange, LettersBegin, LevelsBegin, levels_low, levels_high, letters_low, letters_high}
use Rattle.uca_ranges.specs.Laws.{StoredKeysByLevels, StoredKeysByLetters}
use Rattle.uca_ranges.proofs.Ranges.{both_hold, neither_holds, iff_then, range_as, range_after, below_low, above_not, above_high, from_nothing, from_byte, three_ways}

-- ---- The bytes of weights

-- a lesser weight has lesser bytes
pub bytes_below : (v w : ℕ) (xs ys : List ℕ) → v < w → IsBelow (v / 256 ∷ v % 256 ∷ xs) (w / 256 ∷ w % 256 ∷ ys)
bytes_below v w xs ys h =
    let high : (v / 256 < w / 256) ⊎ (v / 256 ≡ w / 256) = grind arith in
    elim high [
      | inl less ↦ inl less
      | inr same ↦ inr (same, inl (omega arith))
    ]

-- 00 00 is below a weight
pub zero_below : (w : ℕ) (xs ys : List ℕ) → 0 < w → IsBelow (0 ∷ 0 ∷ xs) (w / 256 ∷ w % 256 ∷ ys)
zero_below w xs ys h =
    let high : (0 < w / 256) ⊎ (0 ≡ w / 256) = grind arith in
    elim high [
      | inl less ↦ inl less
      | inr same ↦ inr (same, inl (omega arith))
    ]

-- a weight below FFFF is below FF FF
pub below_top : (w : ℕ) (xs : List ℕ) → w < 65535 → IsBelow (w / 256 ∷ w % 256 ∷ xs) (255 ∷ 255 ∷ [])
below_top w xs h =
    let high : (w / 256 < 255) ⊎ (w / 256 ≡ 255) = grind arith in
    elim high [
      | inl less ↦ inl less
      | inr same ↦ inr (same, inl (omega arith))
    ]

-- ---- What follows a level: nothing, or 00 00 and more

abbrev pub IsTail : List ℕ → Type 0
IsTail bytes = (bytes ≡ []) ⊎ ((more : List ℕ) × (bytes ≡ 0 ∷ 0 ∷ more))

-- what follows the first of some levels, before these bytes
abbrev pub after_first : (later : List (List ℕ)) → List ℕ → List ℕ
after_first [] ext = ext
after_first (b ∷ more) ext = 0 ∷ 0 ∷ (levels_bytes (b ∷ more) ++ ext)

-- it ends a level
pub after_tail : (later : List (List ℕ)) (ext : List ℕ) → IsTail ext → IsTail (after_first later ext)
after_tail [] ext h = h
after_tail (b ∷ more) ext h = inr (levels_bytes (b ∷ more) ++ ext, refl)

-- so levels begin with the first one
pub first_then : (a : List ℕ) (later : List (List ℕ)) (ext : List ℕ) → levels_bytes (a ∷ later) ++ ext ≡ level_bytes a ++ after_first later ext
first_then a [] ext = refl
first_then a (b ∷ more) ext = append_assoc (level_bytes a) (0 ∷ 0 ∷ levels_bytes (b ∷ more)) ext

-- what follows the levels of weights
abbrev pub points_part : Depth → List ℕ → List ℕ
points_part Weights points = []
points_part Identical points = 0 ∷ 0 ∷ points_bytes points

-- it ends a level
pub points_tail : (depth : Depth) (points : List ℕ) → IsTail (points_part depth points)
points_tail Weights points = inl refl
points_tail Identical points = inr (points_bytes points, refl)

-- so a stored key is its levels, and what follows them
pub stored_is : (depth : Depth) (levels : List (List ℕ)) (points : List ℕ)
    → stored_key depth (record { levels = levels; points = points }) ≡ levels_bytes levels ++ points_part depth points
stored_is Weights levels points = sym (append-nil (levels_bytes levels))
stored_is Identical levels points = refl

-- ---- Level 1 begins with some letters

-- a list begins with another one
abbrev pub Begins : (front whole : List ℕ) → Type 0
Begins front whole = (more : List ℕ) × (whole ≡ front ++ more)

-- both begin with the same weight
pub begins_after : (w : ℕ) (front whole : List ℕ) → Begins front whole ↔ Begins (w ∷ front) (w ∷ whole)
begins_after w front whole = (
  (λ h. (h.0, ap (λ (xs : List ℕ). w ∷ xs) h.1)),
  (λ h. (h.0, (let e : w ∷ whole ≡ w ∷ (front ++ h.0) = h.1 in cc))),
)

-- the first weights are equal
pub begins_same : (v w : ℕ) (front whole : List ℕ) → Begins (w ∷ front) (v ∷ whole) → v ≡ w
begins_same v w front whole h = let e : v ∷ whole ≡ w ∷ (front ++ h.0) = h.1 in cc

-- nothing begins with a weight
pub begins_none : (w : ℕ) (front : List ℕ) → Begins (w ∷ front) [] → ⊥
begins_none w front h = let e : [] ≡ w ∷ (front ++ h.0) = h.1 in cc

-- this, and no FFFF after it
abbrev pub BeginsOnly : (front whole : List ℕ) → Type 0
BeginsOnly front whole = Begins front whole × (Begins (front ++ 0xFFFF ∷ []) whole → ⊥)

-- after the same weight
only_after : (w : ℕ) (front whole : List ℕ) → BeginsOnly front whole ↔ BeginsOnly (w ∷ front) (w ∷ whole)
only_after w front whole =
    let one = begins_after w front whole in
    let two = begins_after w (front ++ 0xFFFF ∷ []) whole in (
      (λ h. (one.0 h.0, (λ more. h.1 (two.1 more)))),
      (λ h. (one.1 h.0, (λ more. h.1 (two.0 more)))),
    )

-- what ends a level is below FF FF
tail_top : (tail : List ℕ) → IsTail tail → lexicographic tail (255 ∷ 255 ∷ []) ≡ Less
tail_top tail (inl none) = subst (λ (xs : List ℕ). lexicographic xs (255 ∷ 255 ∷ []) ≡ Less) (sym none) refl
tail_top tail (inr some) =
    subst (λ (xs : List ℕ). lexicographic xs (255 ∷ 255 ∷ []) ≡ Less) (sym some.1)
    (below_less (0 ∷ 0 ∷ some.0) (255 ∷ 255 ∷ []) (inl (omega arith)))

-- what ends a level is below a weight
tail_less : (w : ℕ) (tail more : List ℕ) → 0 < w → IsTail tail → lexicographic tail (w / 256 ∷ w % 256 ∷ more) ≡ Less
tail_less w tail more above (inl none) = subst (λ (xs : List ℕ). lexicographic xs (w / 256 ∷ w % 256 ∷ more) ≡ Less) (sym none) refl
tail_less w tail more above (inr some) =
    subst (λ (xs : List ℕ). lexicographic xs (w / 256 ∷ w % 256 ∷ more) ≡ Less) (sym some.1)
    (below_less (0 ∷ 0 ∷ some.0) (w / 256 ∷ w % 256 ∷ more) (zero_below w some.0 more above))

-- a level that goes on with FFFF
top_weight : (v : ℕ) (more : List ℕ) → v ≡ 65535 → lexicographic (v / 256 ∷ v % 256 ∷ more) (255 ∷ 255 ∷ []) ≡ Less → ⊥
top_weight v more same h =
    let e : lexicographic (255 ∷ 255 ∷ more) (255 ∷ 255 ∷ []) ≡ Less =
    subst (λ (n : ℕ). lexicographic (n / 256 ∷ n % 256 ∷ more) (255 ∷ 255 ∷ []) ≡ Less) same h in
    from_nothing more e

-- no letters are looked up
none_by : (v : ℕ) (vs tail : List ℕ) → v < 65536 → (v < 65535) ⊎ ((v ≡ 65535) ⊎ (65535 < v))
    → InRange [] (255 ∷ 255 ∷ []) (v / 256 ∷ v % 256 ∷ (level_bytes vs ++ tail)) ↔ BeginsOnly [] (v ∷ vs)
none_by v vs tail small (inl less) =
    both_hold (
      (λ h. from_nothing (v / 256 ∷ v % 256 ∷ (level_bytes vs ++ tail)) h),
      below_less (v / 256 ∷ v % 256 ∷ (level_bytes vs ++ tail)) (255 ∷ 255 ∷ []) (below_top v (level_bytes vs ++ tail) less),
    )
    ((v ∷ vs, refl), (λ more. let same : v ≡ 65535 = begins_same v 65535 [] vs more in omega arith))
none_by v vs tail small (inr (inl same)) =
    neither_holds (λ h. top_weight v (level_bytes vs ++ tail) same h.1)
    (λ h. h.1 (vs, ap (λ (n : ℕ). n ∷ vs) same))
none_by v vs tail small (inr (inr more)) = absurd (omega arith)

-- no letters, by whether there is a weight
no_letters : (first tail : List ℕ) → AreWeights first → IsTail tail → InRange [] (255 ∷ 255 ∷ []) (level_bytes first ++ tail) ↔ BeginsOnly [] first
no_letters [] tail weights end =
    both_hold ((λ h. from_nothing tail h), tail_top tail end) (([], refl), (λ more. begins_none 65535 [] more))
no_letters (v ∷ vs) tail weights end = none_by v vs tail weights.0.1 (three_ways v 65535)

-- two first weights
letters_by : (w v : ℕ) (ws vs tail : List ℕ) → (InRange (level_bytes ws) (level_bytes ws ++ (255 ∷ 255 ∷ [])) (level_bytes vs ++ tail) ↔ BeginsOnly ws vs)
    → (v < w) ⊎ ((v ≡ w) ⊎ (w < v))
    → InRange (level_bytes (w ∷ ws)) (level_bytes (w ∷ ws) ++ (255 ∷ 255 ∷ [])) (level_bytes (v ∷ vs) ++ tail) ↔ BeginsOnly (w ∷ ws) (v ∷ vs)
letters_by w v ws vs tail more (inl less) =
    neither_holds
    (below_low (level_bytes (w ∷ ws)) (level_bytes (w ∷ ws) ++ (255 ∷ 255 ∷ [])) (level_bytes (v ∷ vs) ++ tail)
    (bytes_below v w (level_bytes vs ++ tail) (level_bytes ws) less))
    (λ h. let same : v ≡ w = begins_same v w ws vs h.0 in omega arith)
letters_by w v ws vs tail more (inr (inr greater)) =
    neither_holds
    (above_high (level_bytes (w ∷ ws)) (level_bytes (w ∷ ws) ++ (255 ∷ 255 ∷ [])) (level_bytes (v ∷ vs) ++ tail)
    (bytes_below w v (level_bytes ws ++ (255 ∷ 255 ∷ [])) (level_bytes vs ++ tail) greater))
    (λ h. let same : v ≡ w = begins_same v w ws vs h.0 in omega arith)
letters_by w v ws vs tail more (inr (inl same)) =
    subst (λ (n : ℕ). InRange (level_bytes (w ∷ ws)) (level_bytes (w ∷ ws) ++ (255 ∷ 255 ∷ [])) (level_bytes (n ∷ vs) ++ tail) ↔ BeginsOnly (w ∷ ws) (n ∷ vs)) (sym same)
    (iff_then (range_after (w / 256 ∷ w % 256 ∷ []) (level_bytes ws) (level_bytes ws ++ (255 ∷ 255 ∷ [])) (level_bytes vs ++ tail))
    (iff_then more (only_after w ws vs)))

-- level 1 by its weights
pub letters_found : (letters first tail : List ℕ) → AreWeights letters → AreWeights first → IsTail tail
    → InRange (level_bytes letters) (level_bytes letters ++ (255 ∷ 255 ∷ [])) (level_bytes first ++ tail) ↔ BeginsOnly letters first
letters_found [] first tail ls fs end = no_letters first tail fs end
letters_found (w ∷ ws) [] tail ls fs end =
    neither_holds (λ h. h.0 (tail_less w tail (level_bytes ws) ls.0.0 end)) (λ h. begins_none w ws h.0)
letters_found (w ∷ ws) (v ∷ vs) tail ls fs end =
    letters_by w v ws vs tail (letters_found ws vs tail ls.1 fs.1 end) (three_ways v w)

-- the first of some levels
pub first_letters : (letters a : List ℕ) (later : List (List ℕ)) → Begins letters a ↔ LettersBegin letters (a ∷ later)
first_letters letters a later = (
  (λ h. (h.0, later, ap (λ (xs : List ℕ). xs ∷ later) h.1)),
  (λ h. (h.0, (let e : a ∷ later ≡ (letters ++ h.0) ∷ h.1 = h.2 in cc))),
)

-- a key with a first level
letters_law : (depth : Depth) (letters a : List ℕ) (later : List (List ℕ)) (points : List ℕ) → AreWeights letters → AreWeights a
    → InRange (letters_low letters) (letters_high letters) (stored_key depth (record { levels = a ∷ later; points = points }))
    ↔ (LettersBegin letters (a ∷ later) × (LettersBegin (letters ++ 0xFFFF ∷ []) (a ∷ later) → ⊥))
letters_law depth letters a later points ls weights =
    let ext = points_part depth points in
    let key = stored_key depth (record { levels = a ∷ later; points = points }) in
    let one = first_letters letters a later in
    let two = first_letters (letters ++ 0xFFFF ∷ []) a later in
    iff_then (range_as (letters_low letters) (letters_low letters) (letters_high letters) (letters_high letters) key (level_bytes a ++ after_first later ext) refl refl
    (stored_is depth (a ∷ later) points ∙ first_then a later ext))
    (iff_then (letters_found letters a (after_first later ext) ls weights (after_tail later ext (points_tail depth points))) (
      (λ h. (one.0 h.0, (λ more. h.1 (two.1 more)))),
      (λ h. (one.1 h.0, (λ more. h.1 (two.0 more)))),
    ))

-- a key has a level
pub no_level : (weighting : Weighting) → AreLevels (level_count weighting) [] → ⊥
no_level weighting h = count_of weighting h.0
  where
    count_of : (weighting : Weighting) → 0 ≡ level_count weighting → ⊥
    count_of NonIgnorable same = omega (arith, same)
    count_of Shifted same = omega (arith, same)

-- a key
letters_of : (depth : Depth) (weighting : Weighting) (letters : List ℕ) (levels : List (List ℕ)) (points : List ℕ) → AreWeights letters → AreLevels (level_count weighting) levels
    → InRange (letters_low letters) (letters_high letters) (stored_key depth (record { levels = levels; points = points }))
    ↔ (LettersBegin letters levels × (LettersBegin (letters ++ 0xFFFF ∷ []) levels → ⊥))
letters_of depth weighting letters [] points ls are = absurd (no_level weighting are)
letters_of depth weighting letters (a ∷ later) points ls are = letters_law depth letters a later points ls are.1.0

-- the law
pub stored_by_letters : StoredKeysByLetters
stored_by_letters depth weighting letters k ls parts = letters_of depth weighting letters k.levels k.points ls parts.levels

-- ---- The first levels are these

-- the bytes after a level of a high end: 00 01, or 00 00 and more
abbrev IsHigh : List ℕ → Type 0
IsHigh bytes = (bytes ≡ 0 ∷ 1 ∷ []) ⊎ ((more : List ℕ) × (bytes ≡ 0 ∷ 0 ∷ more))

-- what follows the first level of a high end
after_high : (later : List (List ℕ)) → IsHigh (after_first later (0 ∷ 1 ∷ []))
after_high [] = inl refl
after_high (b ∷ more) = inr (levels_bytes (b ∷ more) ++ (0 ∷ 1 ∷ []), refl)

-- bytes of a weight are not less than 00 01
one_by : (x y : ℕ) (xs : List ℕ) → (0 < x) ⊎ ((x ≡ 0) × (0 < y)) → lexicographic (x ∷ y ∷ xs) (0 ∷ 1 ∷ []) ≡ Less → ⊥
one_by x y xs (inl above) h = above_not (0 ∷ 1 ∷ []) (x ∷ y ∷ xs) (inl above) h
one_by x y xs (inr none) h =
    let e : lexicographic (0 ∷ y ∷ xs) (0 ∷ 1 ∷ []) ≡ Less = subst (λ (n : ℕ). lexicographic (n ∷ y ∷ xs) (0 ∷ 1 ∷ []) ≡ Less) none.0 h in
    from_byte 1 y xs none.1 e

-- one of the bytes of a weight is not 0
some_byte : (v : ℕ) → 0 < v → (0 < v / 256) ⊎ ((v / 256 ≡ 0) × (0 < v % 256))
some_byte v above =
    let high : (0 < v / 256) ⊎ (v / 256 ≡ 0) = grind arith in
    elim high [
      | inl more ↦ inl more
      | inr none ↦ inr (none, omega arith)
    ]

-- a weight is not below a high end
high_not : (v : ℕ) (high xs : List ℕ) → 0 < v → IsHigh high → lexicographic (v / 256 ∷ v % 256 ∷ xs) high ≡ Less → ⊥
high_not v high xs above (inl is) h =
    one_by (v / 256) (v % 256) xs (some_byte v above)
    (subst (λ (bytes : List ℕ). lexicographic (v / 256 ∷ v % 256 ∷ xs) bytes ≡ Less) is h)
high_not v high xs above (inr is) h =
    above_not (0 ∷ 0 ∷ is.0) (v / 256 ∷ v % 256 ∷ xs) (zero_below v is.0 xs above)
    (subst (λ (bytes : List ℕ). lexicographic (v / 256 ∷ v % 256 ∷ xs) bytes ≡ Less) is.1 h)

-- one more weight of a level that is equal
same_after : (w : ℕ) (ws vs : List ℕ) (R : Type 0) → ((vs ≡ ws) × R) ↔ ((w ∷ vs ≡ w ∷ ws) × R)
same_after w ws vs R = (
  (λ h. (ap (λ (xs : List ℕ). w ∷ xs) h.0, h.1)),
  (λ h. ((let e : w ∷ vs ≡ w ∷ ws = h.0 in cc), h.1)),
)

-- the first weights are equal
heads_same : (v w : ℕ) (vs ws : List ℕ) → v ∷ vs ≡ w ∷ ws → v ≡ w
heads_same v w vs ws h = cc

-- two first weights of a level
level_by : (w v : ℕ) (ws vs low high tail : List ℕ) → (InRange (level_bytes ws ++ low) (level_bytes ws ++ high) (level_bytes vs ++ tail) ↔ ((vs ≡ ws) × InRange low high tail))
    → (v < w) ⊎ ((v ≡ w) ⊎ (w < v))
    → InRange (level_bytes (w ∷ ws) ++ low) (level_bytes (w ∷ ws) ++ high) (level_bytes (v ∷ vs) ++ tail) ↔ ((v ∷ vs ≡ w ∷ ws) × InRange low high tail)
level_by w v ws vs low high tail more (inl less) =
    neither_holds
    (below_low (level_bytes (w ∷ ws) ++ low) (level_bytes (w ∷ ws) ++ high) (level_bytes (v ∷ vs) ++ tail)
    (bytes_below v w (level_bytes vs ++ tail) (level_bytes ws ++ low) less))
    (λ h. let same : v ≡ w = heads_same v w vs ws h.0 in omega arith)
level_by w v ws vs low high tail more (inr (inr greater)) =
    neither_holds
    (above_high (level_bytes (w ∷ ws) ++ low) (level_bytes (w ∷ ws) ++ high) (level_bytes (v ∷ vs) ++ tail)
    (bytes_below w v (level_bytes ws ++ high) (level_bytes vs ++ tail) greater))
    (λ h. let same : v ≡ w = heads_same v w vs ws h.0 in omega arith)
level_by w v ws vs low high tail more (inr (inl same)) =
    subst (λ (n : ℕ). InRange (level_bytes (w ∷ ws) ++ low) (level_bytes (w ∷ ws) ++ high) (level_bytes (n ∷ vs) ++ tail) ↔ ((n ∷ vs ≡ w ∷ ws) × InRange low high tail)) (sym same)
    (iff_then (range_after (w / 256 ∷ w % 256 ∷ []) (level_bytes ws ++ low) (level_bytes ws ++ high) (level_bytes vs ++ tail))
    (iff_then more (same_after w ws vs (InRange low high tail))))

-- a level, by its weights
level_found : (ws vs low high tail : List ℕ) → AreWeights ws → AreWeights vs → IsHigh high → IsTail tail
    → InRange (level_bytes ws ++ low) (level_bytes ws ++ high) (level_bytes vs ++ tail) ↔ ((vs ≡ ws) × InRange low high tail)
level_found [] [] low high tail a b top end = ((λ h. (refl, h)), (λ h. h.1))
level_found [] (v ∷ vs) low high tail a b top end =
    neither_holds (λ h. high_not v high (level_bytes vs ++ tail) b.0.0 top h.1) (λ h. let e : v ∷ vs ≡ [] = h.0 in cc)
level_found (w ∷ ws) [] low high tail a b top end =
    neither_holds (λ h. h.0 (tail_less w tail (level_bytes ws ++ low) a.0.0 end)) (λ h. let e : [] ≡ w ∷ ws = h.0 in cc)
level_found (w ∷ ws) (v ∷ vs) low high tail a b top end =
    level_by w v ws vs low high tail (level_found ws vs low high tail a.1 b.1 top end) (three_ways v w)

-- the first level, and those after it
levels_after_first : (a b : List ℕ) (fs ls : List (List ℕ)) → ((b ≡ a) × LevelsBegin fs ls) ↔ LevelsBegin (a ∷ fs) (b ∷ ls)
levels_after_first a b fs ls = (
  (λ h. (h.1.0, ap (λ (x : List ℕ). x ∷ ls) h.0 ∙ ap (λ (xs : List (List ℕ)). a ∷ xs) h.1.1)),
  (λ h. let e : b ∷ ls ≡ a ∷ (fs ++ h.0) = h.1 in ((let first : b ≡ a = cc in first), (h.0, (let rest : ls ≡ fs ++ h.0 = cc in rest)))),
)

-- the other side of a pair
then_same : (A B C : Type 0) → (B ↔ C) → (A × B) ↔ (A × C)
then_same A B C h = ((λ p. (p.0, h.0 p.1)), (λ p. (p.0, h.1 p.1)))

-- a level, and those after it
level_step : (a b : List ℕ) (fs ls : List (List ℕ)) (ext : List ℕ) → AreWeights a → AreWeights b → IsTail ext
    → (InRange (after_first fs []) (after_first fs (0 ∷ 1 ∷ [])) (after_first ls ext) ↔ LevelsBegin fs ls)
    → InRange (levels_bytes (a ∷ fs) ++ []) (levels_bytes (a ∷ fs) ++ (0 ∷ 1 ∷ [])) (levels_bytes (b ∷ ls) ++ ext) ↔ LevelsBegin (a ∷ fs) (b ∷ ls)
level_step a b fs ls ext aw bw end more =
    iff_then (range_as (levels_bytes (a ∷ fs) ++ []) (level_bytes a ++ after_first fs []) (levels_bytes (a ∷ fs) ++ (0 ∷ 1 ∷ [])) (level_bytes a ++ after_first fs (0 ∷ 1 ∷ []))
    (levels_bytes (b ∷ ls) ++ ext) (level_bytes b ++ after_first ls ext) (first_then a fs []) (first_then a fs (0 ∷ 1 ∷ [])) (first_then b ls ext))
    (iff_then (level_found a b (after_first fs []) (after_first fs (0 ∷ 1 ∷ [])) (after_first ls ext) aw bw (after_high fs) (after_tail ls ext end))
    (iff_then (then_same (b ≡ a) (InRange (after_first fs []) (after_first fs (0 ∷ 1 ∷ [])) (after_first ls ext)) (LevelsBegin fs ls) more) (levels_after_first a b fs ls)))

-- no more levels are looked up
tail_found : (tail : List ℕ) → IsTail tail → lexicographic tail (0 ∷ 1 ∷ []) ≡ Less
tail_found tail (inl none) = subst (λ (xs : List ℕ). lexicographic xs (0 ∷ 1 ∷ []) ≡ Less) (sym none) refl
tail_found tail (inr some) =
    subst (λ (xs : List ℕ). lexicographic xs (0 ∷ 1 ∷ []) ≡ Less) (sym some.1)
    (below_less (0 ∷ 0 ∷ some.0) (0 ∷ 1 ∷ []) (inr (refl, inl (omega arith))))

-- the levels after the first
later_found : (fs ls : List (List ℕ)) (ext : List ℕ) → AllByRecursion AreWeights fs → AllByRecursion AreWeights ls → length fs ≤ length ls → IsTail ext
    → InRange (after_first fs []) (after_first fs (0 ∷ 1 ∷ [])) (after_first ls ext) ↔ LevelsBegin fs ls
later_found [] ls ext a b few end =
    both_hold ((λ h. from_nothing (after_first ls ext) h), tail_found (after_first ls ext) (after_tail ls ext end)) (ls, refl)
later_found (c ∷ fs) [] ext a b few end = absurd (omega arith)
later_found (c ∷ fs) (d ∷ ls) ext a b few end =
    iff_then (range_after (0 ∷ 0 ∷ []) (levels_bytes (c ∷ fs) ++ []) (levels_bytes (c ∷ fs) ++ (0 ∷ 1 ∷ [])) (levels_bytes (d ∷ ls) ++ ext))
    (level_step c d fs ls ext a.0 b.0 end (later_found fs ls ext a.1 b.1 (omega arith) end))

-- a key
levels_of : (depth : Depth) (firsts levels : List (List ℕ)) (points : List ℕ) → AllByRecursion AreWeights firsts → AllByRecursion AreWeights levels
    → 0 < length firsts → length firsts ≤ length levels
    → InRange (levels_low firsts) (levels_high firsts) (stored_key depth (record { levels = levels; points = points })) ↔ LevelsBegin firsts levels
levels_of depth [] levels points a b some few = absurd (omega arith)
levels_of depth (c ∷ fs) [] points a b some few = absurd (omega arith)
levels_of depth (c ∷ fs) (d ∷ ls) points a b some few =
    let ext = points_part depth points in
    let key = stored_key depth (record { levels = d ∷ ls; points = points }) in
    iff_then (range_as (levels_low (c ∷ fs)) (levels_bytes (c ∷ fs) ++ []) (levels_high (c ∷ fs)) (levels_high (c ∷ fs)) key (levels_bytes (d ∷ ls) ++ ext)
    (sym (append-nil (levels_bytes (c ∷ fs)))) refl (stored_is depth (d ∷ ls) points))
    (level_step c d fs ls ext a.0 b.0 (points_tail depth points) (later_found fs ls ext a.1 b.1 (omega arith) (points_tail depth points)))

-- the law
pub stored_by_levels : StoredKeysByLevels
stored_by_levels depth weighting count firsts k some few fs parts =
    levels_of depth firsts k.levels k.points fs.1 parts.levels.1 (omega (arith, fs.0)) (omega (arith, fs.0, parts.levels.0))
