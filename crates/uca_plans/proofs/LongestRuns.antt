-- The runs of a list are as long as possible.
use Rattle.std.proofs.Common.{◌≡◌, inl, inr, ℕ, ◌+◌, List, [], ◌∷◌, nat_eq, Bool, true, false, cond, arith}
use Rattle.uca_weights.specs.declared.maps.Run.{Run}
use Rattle.uca_plans.specs.declared.drafts.DraftWeight.TheVariants.{Base, New}
use Rattle.uca_plans.specs.Plans.{run_before, runs_of}
use Rattle.uca_plans.specs.PlanLaws.{AreLongest, RunsAreLongest}
use Rattle.uca_plans.proofs.RunImages.{before_cases}

-- the first run of some that are so may begin one weight earlier
begun_earlier : (from to : ℕ) (r : Run) (runs : List Run) → r.from ≡ from + 1 → r.to ≡ to + 1 → AreLongest (r ∷ runs)
    → AreLongest (record { from = from; to = to; count = r.count + 1 } ∷ runs)
begun_earlier from to r [] first second longest = tt
begun_earlier from to r (s ∷ runs) first second longest =
    (λ goes also. longest.0 (omega (arith, first, goes)) (omega (arith, second, also)), longest.1)

-- one weight more in front
longest_before : (from to : ℕ) (runs : List Run) → AreLongest runs → AreLongest (run_before from to runs)
longest_before from to [] longest = tt
longest_before from to (r ∷ runs) longest = elim (before_cases from to r runs) [
  | inl joined ↦ rw joined.2 (begun_earlier from to r runs joined.0 joined.1 longest)
  | inr apart ↦ rw apart.1 (apart.0, longest)
]

-- the runs of a list are so
pub runs_longest : RunsAreLongest
runs_longest [] numbers = tt
runs_longest (m ∷ members) [] = tt
runs_longest (Base w ∷ members) (n ∷ numbers) = go (nat_eq w 0) (runs_longest members numbers)
  where
    -- by whether the weight is 0
    go : (b : Bool) → AreLongest (runs_of members numbers)
        → AreLongest (cond b (runs_of members numbers) (run_before w n (runs_of members numbers)))
    go true later = later
    go false later = longest_before w n (runs_of members numbers) later
runs_longest (New k ∷ members) (n ∷ numbers) = runs_longest members numbers
