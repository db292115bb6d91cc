-- The runs of a good list with room are proper.
use Rattle.std.proofs.Common.{◌≡◌, ◌⊎◌, inl, inr, ℕ, ◌+◌, ◌<◌, ◌≤◌, true, List, [], ◌∷◌, ◌++◌, Some, None, sym, ap, ◌∙◌, subst, arith}
use Rattle.std.specs.List.{AllByRecursion}
use Rattle.std.proofs.lemmas.List.{nil_from_length}
use Rattle.uca_weights.specs.declared.Element.{Element}
use Rattle.uca_weights.specs.declared.Level.{Level}
use Rattle.uca_weights.specs.declared.Level.TheVariants.{One, Two, Three}
use Rattle.uca_weights.specs.declared.maps.Run.{Run}
use Rattle.uca_weights.specs.Runs.{run_image, weights_end, AreRising, AreProperRuns}
use Rattle.uca_weights.proofs.Lists.{each_weaker}
use Rattle.uca_plans.specs.declared.drafts.DraftWeight.{DraftWeight}
use Rattle.uca_plans.specs.declared.drafts.DraftWeight.TheVariants.{Base}
use Rattle.uca_plans.specs.Numbering.{numbers_of}
use Rattle.uca_plans.specs.Lists.{fixed_weight, top_weight, base_weights, low_segment, high_segment, low_members, high_members}
use Rattle.uca_plans.specs.Lists.{level_has_room, level_numbers}
use Rattle.uca_plans.specs.ListLaws.{IsRising, IsWeightOf}
use Rattle.uca_plans.specs.Runs.{AreRunsFrom, AreRunsOf, HasZeroFirstOrNone}
use Rattle.uca_plans.specs.Plans.{runs_of}
use Rattle.uca_plans.proofs.ListMembers.{each_of, weight_split}
use Rattle.uca_plans.proofs.BaseWeightLemmas.{bases_rising, base_from}
use Rattle.uca_plans.proofs.RisingNumbers.{each_joined, level_places, lows, highs, fixed_within, low_numbers, high_numbers, level_rising, level_within}
use Rattle.uca_plans.proofs.RisingNumbers.{level_length, level_fixed}
use Rattle.uca_plans.proofs.RunImages.{send_base_weights}
use Rattle.uca_plans.proofs.GoodLists.{IsGoodList, good_fixed}

-- ---- Runs that rise from 1 on

-- runs that rise after a run
rising_after : (level : Level) (s : Run) (runs : List Run) → 0 < s.from → 0 < s.to
    → AreRunsFrom (weights_end level) (s.from + s.count) (s.to + s.count) runs → AreRising level (Some s) runs
rising_after level s [] from to rise = tt
rising_after level s (r ∷ runs) from to rise = (
  record {
    some = rise.0;
    range = record { from_zero = omega (arith, rise.1); to_zero = omega (arith, rise.2); from_end = rise.3; to_end = rise.4 };
    above = (rise.1, rise.2);
  },
  rising_after level r runs (omega (arith, rise.1)) (omega (arith, rise.2)) rise.5,
)

-- runs that rise from 1 on are proper
pub rising_from_one : (level : Level) (runs : List Run) → AreRunsFrom (weights_end level) 1 1 runs → AreRising level None runs
rising_from_one level [] rise = tt
rising_from_one level (r ∷ runs) rise = (
  record {
    some = rise.0;
    range = record { from_zero = omega (arith, rise.1); to_zero = omega (arith, rise.2); from_end = rise.3; to_end = rise.4 };
    above = tt;
  },
  rising_after level r runs (omega (arith, rise.1)) (omega (arith, rise.2)) rise.5,
)

-- ---- Zero

-- at a level where 0 is not fixed, no weight and no number is 0
none_zero : (level : Level) (es : List Element) (n : ℕ) (ms : List DraftWeight) → 0 < fixed_weight level → IsGoodList level es n ms
    → level_has_room level ms ≡ true → HasZeroFirstOrNone ms (level_numbers level ms)
none_zero level es n ms some good room = inl (
  subst (λ ws. AllByRecursion (λ w. 0 < w) ws) (sym good.base)
      (each_of (λ w. 0 < w) (base_weights level es) (λ w among. positive w (base_from level es w among))),
  each_joined (λ k. 0 < k) (lows level ms) (fixed_weight level) (highs level ms)
      (each_weaker (λ k. (0 < k) × (k < fixed_weight level)) (λ k. 0 < k) (λ k h. h.0) (lows level ms) (low_numbers level ms room))
      some
      (each_weaker (λ k. (fixed_weight level < k) × (k ≤ top_weight level)) (λ k. 0 < k) (λ k h. omega (arith, h.0))
      (highs level ms) (high_numbers level ms room)),
)
  where
    -- a base weight is not 0
    positive : (w : ℕ) → (w ≡ fixed_weight level) ⊎ IsWeightOf level es w → 0 < w
    positive w (inl fixed) = omega arith
    positive w (inr of) = of.0

-- at level 1 the list begins with 0, whose number is 0
zero_first : (es : List Element) (n : ℕ) (ms : List DraftWeight) → IsGoodList One es n ms → level_has_room One ms ≡ true
    → HasZeroFirstOrNone ms (level_numbers One ms)
zero_first es n ms good room =
    let low = (level_places One ms room).0 in
    let none : low_members One ms ≡ [] = nil_from_length (low_members One ms) (omega arith) in
    let split : low_members One ms ++ Base 0 ∷ high_members One ms ≡ ms = weight_split (Base 0) ms (good_fixed One es n ms good) in
    let first : ms ≡ Base 0 ∷ high_members One ms = sym split ∙ ap (λ xs. xs ++ Base 0 ∷ high_members One ms) none in
    let numbers : level_numbers One ms ≡ 0 ∷ numbers_of (high_segment One) (high_members One ms) =
    ap (λ xs. numbers_of (low_segment One) xs ++ 0 ∷ numbers_of (high_segment One) (high_members One ms)) none in
    inr (high_members One ms, numbers_of (high_segment One) (high_members One ms), first, numbers)

-- at each level 0 comes first or not at all
pub zero_first_or_none : (level : Level) (es : List Element) (n : ℕ) (ms : List DraftWeight) → IsGoodList level es n ms → level_has_room level ms ≡ true
    → HasZeroFirstOrNone ms (level_numbers level ms)
zero_first_or_none One es n ms good room = zero_first es n ms good room
zero_first_or_none Two es n ms good room = none_zero Two es n ms (omega arith) good room
zero_first_or_none Three es n ms good room = none_zero Three es n ms (omega arith) good room

-- ---- The runs of a good list

-- the base weights of a level are not above its top
bases_within : (level : Level) (es : List Element) → AllByRecursion (λ w. w ≤ top_weight level) (base_weights level es)
bases_within level es = each_of (λ w. w ≤ top_weight level) (base_weights level es) (λ w among. within w (base_from level es w among))
  where
    -- a base weight is not
    within : (w : ℕ) → (w ≡ fixed_weight level) ⊎ IsWeightOf level es w → w ≤ top_weight level
    within w (inl fixed) = let bound = fixed_within level in omega arith
    within w (inr of) = of.1

-- the runs of a good list with room send its base weights to their numbers
pub good_runs : (level : Level) (es : List Element) (n : ℕ) (ms : List DraftWeight) → IsGoodList level es n ms → level_has_room level ms ≡ true
    → AreRunsOf (top_weight level) ms (level_numbers level ms)
good_runs level es n ms good room =
    send_base_weights (top_weight level) ms (level_numbers level ms)
    (level_length level ms (good_fixed level es n ms good)) (zero_first_or_none level es n ms good room)
    (subst IsRising (sym good.base) (bases_rising level es)) (level_rising level ms room)
    (subst (λ ws. AllByRecursion (λ w. w ≤ top_weight level) ws) (sym good.base) (bases_within level es)) (level_within level ms room)

-- a fixed weight other than 0 is sent to itself
fixed_sent : (level : Level) (es : List Element) (n : ℕ) (ms : List DraftWeight) → 0 < fixed_weight level → IsGoodList level es n ms
    → level_has_room level ms ≡ true
    → run_image (runs_of ms (level_numbers level ms)) (fixed_weight level) ≡ Some (fixed_weight level)
fixed_sent level es n ms some good room =
    let fixed = good_fixed level es n ms good in
    (good_runs level es n ms good room).images (fixed_weight level) some fixed ∙ ap Some (level_fixed level ms fixed)

-- the runs of a good list with room are proper
pub good_proper : (level : Level) (es : List Element) (n : ℕ) (ms : List DraftWeight) → IsGoodList level es n ms → level_has_room level ms ≡ true
    → AreProperRuns level (runs_of ms (level_numbers level ms))
good_proper One es n ms good room = record { rise = rising_from_one One (runs_of ms (level_numbers One ms)) (good_runs One es n ms good room).rise; fixed = tt }
good_proper Two es n ms good room = record {
  rise = rising_from_one Two (runs_of ms (level_numbers Two ms)) (good_runs Two es n ms good room).rise;
  fixed = fixed_sent Two es n ms (omega arith) good room;
}
good_proper Three es n ms good room = record {
  rise = rising_from_one Three (runs_of ms (level_numbers Three ms)) (good_runs Three es n ms good room).rise;
  fixed = fixed_sent Three es n ms (omega arith) good room;
}
