-- Weights, level lists, the order of texts by them, and their keys.
use Rattle.std.specs.Prelude.{ℕ, zero, suc, ◌/◌, ◌%◌, List, [], ◌∷◌, ◌++◌, map, Bool, false, ◌&&◌, not, filter, nat_eq}
use Rattle.std.specs.Prelude.{if◌then◌else◌, flat_map}
use Rattle.std.specs.Ordering.{nat_cmp}
use Rattle.std.specs.Cmp.Lexicographic.{slice_cmp}
use Rattle.std.specs.declared.cmp.Ordering.{Ordering}
use Rattle.std.specs.declared.cmp.Ordering.TheVariants.{Less, Equal, Greater}
use Rattle.uca_weights.specs.declared.Element.{Element}
use Rattle.uca_weights.specs.declared.Weighting.{Weighting}
use Rattle.uca_weights.specs.declared.Weighting.TheVariants.{NonIgnorable, Shifted}

-- ---- Weighted elements (UTS #10, section 4)

-- the weights of an element, at the levels from 1 on
abbrev pub Weights : Type 0
Weights = List ℕ

-- it has no weight at level 1
abbrev pub is_ignorable : Element → Bool
is_ignorable e = nat_eq e.primary 0

-- it has no weight
abbrev pub is_completely_ignorable : Element → Bool
is_completely_ignorable e = is_ignorable e && nat_eq e.secondary 0 && nat_eq e.tertiary 0

-- Whether the nearest of the elements with a non-zero primary is variable. The nearest element comes first.
abbrev pub follows_variable : List Element → Bool
follows_variable [] = false
follows_variable (e ∷ earlier) = if is_ignorable e then follows_variable earlier else e.mark

-- The shifted weights of an element. A variable element has only its primary weight, at the fourth level. An element
-- without a primary weight that follows a variable one has no weight. Each of the others has FFFF at the fourth level,
-- if it has any weight.
abbrev pub shifted_weights : Bool → Element → Weights
shifted_weights after_variable e =
    if e.mark then 0 ∷ 0 ∷ 0 ∷ e.primary ∷ [] else
    if is_ignorable e && after_variable then 0 ∷ 0 ∷ 0 ∷ 0 ∷ [] else
    e.primary ∷ e.secondary ∷ e.tertiary ∷ (if is_completely_ignorable e then 0 else 0xFFFF) ∷ []

-- the weights of an element, which follows a variable one or not
abbrev pub weights_of : Weighting → Bool → Element → Weights
weights_of NonIgnorable after_variable e = e.primary ∷ e.secondary ∷ e.tertiary ∷ []
weights_of Shifted after_variable e = shifted_weights after_variable e

-- each element's weights, after the earlier ones
abbrev pub weighted_following : Weighting → List Element → List Element → List Weights
weighted_following weighting earlier [] = []
weighted_following weighting earlier (e ∷ es) = weights_of weighting (follows_variable earlier) e ∷ weighted_following weighting (e ∷ earlier) es

abbrev pub weighted : Weighting → List Element → List Weights
weighted weighting es = weighted_following weighting [] es

abbrev pub level_count : Weighting → ℕ
level_count NonIgnorable = 3
level_count Shifted = 4

-- ---- Level lists and their order (UTS #10, sections 1.1 and 7.4)

-- the weight at a level, from 1 on; 0 where there is none
abbrev pub weight_at : ℕ → Weights → ℕ
weight_at level [] = 0
weight_at zero (w ∷ ws) = 0
weight_at (suc zero) (w ∷ ws) = w
weight_at (suc (suc level)) (w ∷ ws) = weight_at (suc level) ws

-- the non-zero weights of a level, in order
abbrev pub level_list : ℕ → List Weights → List ℕ
level_list level ws = filter (λ w. not (nat_eq w 0)) (map (weight_at level) ws)

-- the level lists of n levels from the level `from` on
abbrev pub level_lists_from : ℕ → ℕ → List Weights → List (List ℕ)
level_lists_from from zero ws = []
level_lists_from from (suc n) ws = level_list from ws ∷ level_lists_from (suc from) n ws

abbrev pub level_lists : Weighting → List Element → List (List ℕ)
level_lists weighting es = level_lists_from 1 (level_count weighting) (weighted weighting es)

-- how two texts compare: the order, and the level at which they differ, 0 where none does
pub record Comparison : Type 0 where
  pub order : Ordering
  pub level : ℕ

-- as a dictionary, where a beginning is less
abbrev pub lexicographic : List ℕ → List ℕ → Ordering
lexicographic = slice_cmp nat_cmp

-- what a level says, or else the levels after it
abbrev pub decided : Ordering → ℕ → Comparison → Comparison
decided Less level later = record { order = Less; level = level }
decided Equal level later = later
decided Greater level later = record { order = Greater; level = level }

-- by the first level whose lists differ; the first lists are those of `level`
abbrev pub compare_from : ℕ → List (List ℕ) → List (List ℕ) → Comparison
compare_from level (a ∷ left) (b ∷ right) = decided (lexicographic a b) level (compare_from (suc level) left right)
compare_from level [] right = record { order = Equal; level = 0 }
compare_from level (a ∷ left) [] = record { order = Equal; level = 0 }

abbrev pub compared : Weighting → List Element → List Element → Comparison
compared weighting left right = compare_from 1 (level_lists weighting left) (level_lists weighting right)

-- ---- Keys (UTS #10, section 7.3)

-- the high byte first
abbrev pub weight_bytes : ℕ → List ℕ
weight_bytes w = w / 256 ∷ w % 256 ∷ []

abbrev pub level_bytes : List ℕ → List ℕ
level_bytes ws = flat_map weight_bytes ws

-- the levels in order, with two bytes 0 between two of them
abbrev pub levels_bytes : List (List ℕ) → List ℕ
levels_bytes [] = []
levels_bytes (a ∷ []) = level_bytes a
levels_bytes (a ∷ b ∷ more) = level_bytes a ++ (0 ∷ 0 ∷ levels_bytes (b ∷ more))

abbrev pub key_bytes : Weighting → List Element → List ℕ
key_bytes weighting es = levels_bytes (level_lists weighting es)
