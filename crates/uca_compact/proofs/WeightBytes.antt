-- The levels of elements as bytes are weights.
use Rattle.std.proofs.Common.{◌≡◌, ℕ, zero, suc, ◌+◌, ◌*◌, ◌/◌, ◌%◌, ◌<◌, List, [], ◌∷◌, Bool, true, false, cond, not, filter, map, nat_eq, length, refl, ap, ap₂, sym, subst, ◌∙◌, arith}
use Rattle.std.specs.List.{AllByRecursion}
use Rattle.std.proofs.lemmas.Bool.Decides.{nat_tests}
use Rattle.uca_weights.specs.declared.Element.{Element}
use Rattle.uca_weights.specs.declared.Weighting.{Weighting}
use Rattle.uca_order.specs.Levels.{Weights, weighted, weight_at, level_count, level_bytes, level_list, level_lists_from, level_lists}
use Rattle.uca_compact.specs.LevelBytes.{weights_in, AreWeightBytes}

-- weights that are written are read again
weights_again : (ws : List ℕ) → weights_in (level_bytes ws) ≡ ws
weights_again [] = refl
weights_again (w ∷ ws) = let whole : 256 * (w / 256) + w % 256 ≡ w = omega arith in ap₂ (λ (n : ℕ) (l : List ℕ). n ∷ l) whole (weights_again ws)

bytes_long : (ws : List ℕ) → length (level_bytes ws) ≡ 2 * length ws
bytes_long [] = refl
bytes_long (w ∷ ws) = let more = bytes_long ws in omega (arith, more)

-- those of a level are not 0
kept_some : (ws : List ℕ) → AllByRecursion (λ (w : ℕ). 0 < w) (filter (λ w. not (nat_eq w 0)) ws)
kept_some [] = tt
kept_some (w ∷ ws) = by_zero (kept_some ws) (nat_eq w 0) refl
  where
    rest : List ℕ
    rest = filter (λ v. not (nat_eq v 0)) ws

    by_zero : AllByRecursion (λ (v : ℕ). 0 < v) rest → (b : Bool) → nat_eq w 0 ≡ b → AllByRecursion (λ (v : ℕ). 0 < v) (cond (not b) (w ∷ rest) rest)
    by_zero more true is = more
    by_zero more false is = (grind (arith, nat_tests), more)

-- the bytes of a level are weights
level_is : (ws : List ℕ) → AllByRecursion (λ (w : ℕ). 0 < w) ws → AreWeightBytes (level_bytes ws)
level_is ws some =
    let again = weights_again ws in
    record {
      whole = ap (λ (l : List ℕ). 2 * length l) again ∙ sym (bytes_long ws);
      some = subst (AllByRecursion (λ (w : ℕ). 0 < w)) (sym again) some;
    }

lists_are : (from n : ℕ) (ws : List Weights)
    → AllByRecursion AreWeightBytes (map level_bytes (level_lists_from from n ws)) × (map weights_in (map level_bytes (level_lists_from from n ws)) ≡ level_lists_from from n ws)
lists_are from zero ws = (tt, refl)
lists_are from (suc n) ws =
    let more = lists_are (suc from) n ws in (
      (level_is (level_list from ws) (kept_some (map (weight_at from) ws)), more.0),
      ap₂ (λ (l : List ℕ) (ls : List (List ℕ)). l ∷ ls) (weights_again (level_list from ws)) more.1,
    )

-- the levels of elements, by their bytes
pub levels_are : (weighting : Weighting) (es : List Element) (levels : List (List ℕ)) → levels ≡ map level_bytes (level_lists weighting es)
    → AllByRecursion AreWeightBytes levels × (map weights_in levels ≡ level_lists weighting es)
levels_are weighting es levels is =
    let all = lists_are 1 (level_count weighting) (weighted weighting es) in
    (subst (AllByRecursion AreWeightBytes) (sym is) all.0, ap (map weights_in) is ∙ all.1)
