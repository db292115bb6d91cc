-- A target without its last code point, and when that has to be a key.
use Rattle.std.proofs.Common.{◌≡◌, ℕ, ◌<◌, List, [], ◌∷◌, ◌++◌, length, ◌&&◌, not, eqb, refl, ap, ap₂, ◌∙◌}
use Rattle.std.proofs.lemmas.Bool.{lt-ltb}
use Rattle.uca_plans.specs.Drafts.{DraftRow, has_key}
use Rattle.uca_plans.specs.Plans.{ends_with_non_starter, without_last, needs_prefix}

-- the last code point is the one at the end
ends_by_last : (class : ℕ → ℕ) (front : List ℕ) (last : ℕ) → ends_with_non_starter class (front ++ last ∷ []) ≡ not (eqb (class last) 0)
ends_by_last class [] last = refl
ends_by_last class (c ∷ []) last = refl
ends_by_last class (c ∷ d ∷ front) last = ends_by_last class (d ∷ front) last

-- and the others are those before it
front_left : (front : List ℕ) (last : ℕ) → without_last (front ++ last ∷ []) ≡ front
front_left [] last = refl
front_left (c ∷ []) last = refl
front_left (c ∷ d ∷ front) last = ap (λ rest. c ∷ rest) (front_left (d ∷ front) last)

module _ (class : ℕ → ℕ) (rows : List DraftRow) (points : List ℕ) where
  -- three or more need one by their last code point and by the others
  pub long_needs : (front : List ℕ) (last : ℕ) → points ≡ front ++ last ∷ [] → 2 < length points →
      needs_prefix class rows points ≡ (not (eqb (class last) 0) && not (has_key rows front))
  long_needs front last parts long =
      ap (λ b. b && (ends_with_non_starter class points && not (has_key rows (without_last points)))) (lt-ltb 2 (length points) long)
      ∙ ap₂ (λ a b. a && not b) (ap (ends_with_non_starter class) parts ∙ ends_by_last class front last)
      (ap (has_key rows) (ap without_last parts ∙ front_left front last))
