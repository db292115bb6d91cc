-- Elements of a table have weights of 16 bits. So their level lists have such weights, and none of them is 0, and keys are
-- of bytes.
use Rattle.std.proofs.Common.{◌≡◌, ℕ, zero, suc, ◌<◌, List, [], ◌∷◌, Bool, true, false, ◌&&◌, cond, not, nat_eq, length, refl, ap, arith}
use Rattle.std.proofs.lemmas.Bool.Decides.{nat_tests}
use Rattle.std.specs.Char.{IsScalar}
use Rattle.std.specs.List.{AllByRecursion}
use Rattle.uca_weights.specs.declared.Depth.{Depth}
use Rattle.uca_weights.specs.declared.Depth.TheVariants.{Weights, Identical}
use Rattle.uca_weights.specs.declared.Element.{Element}
use Rattle.uca_weights.specs.declared.Weighting.{Weighting}
use Rattle.uca_weights.specs.declared.Weighting.TheVariants.{NonIgnorable, Shifted}
use Rattle.uca_weights.proofs.Lists.{each_append}
use Rattle.uca_values.specs.Content.{Fits}
use Rattle.uca_order.specs.Levels as levels
use Rattle.uca_order.specs.Levels.{is_ignorable, is_completely_ignorable, follows_variable, weights_of, weighted_following, weighted, level_count, weight_at, level_list, level_lists_from, level_lists, level_bytes, levels_bytes, key_bytes}
use Rattle.uca_order.specs.Depths.{ReadText, points_bytes, key_at}
use borrow.Table.Char.{scalar_below}

-- ---- Weights

abbrev AreSmall : List ℕ → Type 0
AreSmall = AllByRecursion (λ w. w < 0x1_0000)

-- weights of a level: not 0, and of 16 bits
abbrev AreWeights : List ℕ → Type 0
AreWeights = AllByRecursion (λ w. (0 < w) × (w < 0x1_0000))

-- the shifted weights of an element, by the tests on it
shifted_small : (e : Element) → Fits e → (mark after complete : Bool)
    → AreSmall (cond mark (0 ∷ 0 ∷ 0 ∷ e.primary ∷ []) (cond after (0 ∷ 0 ∷ 0 ∷ 0 ∷ []) (e.primary ∷ e.secondary ∷ e.tertiary ∷ cond complete 0 0xFFFF ∷ [])))
shifted_small e h true after complete = (omega arith, (omega arith, (omega arith, (h.primary, tt))))
shifted_small e h false true complete = (omega arith, (omega arith, (omega arith, (omega arith, tt))))
shifted_small e h false false true = (h.primary, (h.secondary, (h.tertiary, (omega arith, tt))))
shifted_small e h false false false = (h.primary, (h.secondary, (h.tertiary, (omega arith, tt))))

-- the weights of an element
weights_small : (weighting : Weighting) (after : Bool) (e : Element) → Fits e → AreSmall (weights_of weighting after e)
weights_small NonIgnorable after e h = (h.primary, (h.secondary, (h.tertiary, tt)))
weights_small Shifted true e h = shifted_small e h e.mark (is_ignorable e && true) (is_completely_ignorable e)
weights_small Shifted false e h = shifted_small e h e.mark (is_ignorable e && false) (is_completely_ignorable e)

-- the weight at a level
at_level_small : (level : ℕ) (ws : levels.Weights) → AreSmall ws → weight_at level ws < 0x1_0000
at_level_small level [] h = omega arith
at_level_small zero (w ∷ ws) h = omega arith
at_level_small (suc zero) (w ∷ ws) h = h.0
at_level_small (suc (suc level)) (w ∷ ws) h = at_level_small (suc level) ws h.1

-- a level list with one weight more
kept : (w : ℕ) (ws : List ℕ) (b : Bool) → nat_eq w 0 ≡ b → w < 0x1_0000 → AreWeights ws → AreWeights (cond (not b) (w ∷ ws) ws)
kept w ws true is small h = h
kept w ws false is small h = ((grind (arith, nat_tests), small), h)

-- a level list has weights
level_weights : (weighting : Weighting) (level : ℕ) (earlier es : List Element) → AllByRecursion Fits es
    → AreWeights (level_list level (weighted_following weighting earlier es))
level_weights weighting level earlier [] h = tt
level_weights weighting level earlier (e ∷ es) h =
    let ws = weights_of weighting (follows_variable earlier) e in
    kept (weight_at level ws) (level_list level (weighted_following weighting (e ∷ earlier) es)) (nat_eq (weight_at level ws) 0) refl
    (at_level_small level ws (weights_small weighting (follows_variable earlier) e h.0)) (level_weights weighting level (e ∷ earlier) es h.1)

lists_from : (weighting : Weighting) (es : List Element) → AllByRecursion Fits es → (from n : ℕ)
    → (length (level_lists_from from n (weighted weighting es)) ≡ n) × AllByRecursion AreWeights (level_lists_from from n (weighted weighting es))
lists_from weighting es h from zero = (refl, tt)
lists_from weighting es h from (suc n) = let more = lists_from weighting es h (suc from) n in (ap suc more.0, (level_weights weighting from [] es h, more.1))

-- so the levels of elements are level lists of weights
pub level_lists_fit : (weighting : Weighting) (es : List Element) → AllByRecursion Fits es
    → (length (level_lists weighting es) ≡ level_count weighting) × AllByRecursion AreWeights (level_lists weighting es)
level_lists_fit weighting es h = lists_from weighting es h 1 (level_count weighting)

-- ---- Bytes

abbrev AreBytes : List ℕ → Type 0
AreBytes = AllByRecursion (λ b. b < 256)

level_is_bytes : (ws : List ℕ) → AreWeights ws → AreBytes (level_bytes ws)
level_is_bytes [] all = tt
level_is_bytes (w ∷ ws) all = let fits : w < 0x1_0000 = all.0.1 in (omega (arith, fits), (omega arith, level_is_bytes ws all.1))

levels_are_bytes : (lists : List (List ℕ)) → AllByRecursion AreWeights lists → AreBytes (levels_bytes lists)
levels_are_bytes [] all = tt
levels_are_bytes (a ∷ []) all = level_is_bytes a all.0
levels_are_bytes (a ∷ b ∷ more) all =
    each_append (λ n. n < 256) (level_bytes a) (0 ∷ 0 ∷ levels_bytes (b ∷ more)) (level_is_bytes a all.0)
    (omega arith, (omega arith, levels_are_bytes (b ∷ more) all.1))

points_are_bytes : (points : List ℕ) → AllByRecursion IsScalar points → AreBytes (points_bytes points)
points_are_bytes [] all = tt
points_are_bytes (c ∷ points) all =
    let low = scalar_below c all.0 in (omega (arith, low), (omega arith, (omega arith, points_are_bytes points all.1)))

elements_are_bytes : (weighting : Weighting) (es : List Element) → AllByRecursion Fits es → AreBytes (key_bytes weighting es)
elements_are_bytes weighting es fit = levels_are_bytes (level_lists weighting es) (level_lists_fit weighting es fit).1

-- the key of what is read of a text
pub key_is_bytes : (depth : Depth) (weighting : Weighting) (t : ReadText) → AllByRecursion Fits t.elements → AllByRecursion IsScalar t.points →
    AreBytes (key_at depth weighting t)
key_is_bytes Weights weighting t fit scalars = elements_are_bytes weighting t.elements fit
key_is_bytes Identical weighting t fit scalars =
    each_append (λ n. n < 256) (key_bytes weighting t.elements) (0 ∷ 0 ∷ points_bytes t.points) (elements_are_bytes weighting t.elements fit)
    (omega arith, (omega arith, points_are_bytes t.points scalars))
