-- What the runs of a plan send each weight to.
use Rattle.std.specs.Prelude.{◌≡◌, ◌⊎◌, ℕ, ◌+◌, ◌<◌, ◌≤◌, List, [], ◌∷◌, length, ⊤, Some, None}
use Rattle.std.specs.List.{AllByRecursion}
use Rattle.uca_plans.specs.declared.drafts.DraftWeight.{DraftWeight}
use Rattle.uca_plans.specs.declared.drafts.DraftWeight.TheVariants.{Base, New}
use Rattle.uca_weights.specs.declared.maps.Run.{Run}
use Rattle.uca_weights.specs.Runs.{run_image}
use Rattle.uca_plans.specs.Lists.{number_in}
use Rattle.uca_plans.specs.ListLaws.{IsRising, IsAmong}
use Rattle.uca_plans.specs.Plans.{runs_of}

-- the runs are not empty, end before `end`, and each lies above the one before it on both sides
abbrev pub AreRunsFrom : ℕ → ℕ → ℕ → List Run → Type 0
AreRunsFrom end from to [] = ⊤
AreRunsFrom end from to (r ∷ runs) = (0 < r.count) × (from ≤ r.from) × (to ≤ r.to) × (r.from + r.count ≤ end) × (r.to + r.count ≤ end) × AreRunsFrom end (r.from + r.count) (r.to + r.count) runs

-- the base weights of a list
abbrev pub bases : List DraftWeight → List ℕ
bases [] = []
bases (Base w ∷ members) = w ∷ bases members
bases (New _ ∷ members) = bases members

-- the runs rise, send each base weight to its number, and send nothing else
pub record AreRunsOf (top : ℕ) (members : List DraftWeight) (numbers : List ℕ) : Type 0 where
  pub rise : AreRunsFrom (top + 1) 1 1 (runs_of members numbers)
  pub images : (w : ℕ) → 0 < w → IsAmong members (Base w) → run_image (runs_of members numbers) w ≡ Some (number_in members numbers (Base w))
  pub others : (w : ℕ) → (IsAmong members (Base w) → ⊥) → run_image (runs_of members numbers) w ≡ None

-- all numbers are weights, or the list begins with 0 and its number is 0
abbrev pub HasZeroFirstOrNone : List DraftWeight → List ℕ → Type 0
HasZeroFirstOrNone members numbers =
    (AllByRecursion (λ w. 0 < w) (bases members) × AllByRecursion (λ n. 0 < n) numbers)
    ⊎ ((rest : List DraftWeight) × (others : List ℕ) × (members ≡ Base 0 ∷ rest) × (numbers ≡ 0 ∷ others))

abbrev pub RunsSendBaseWeights : Type 0
RunsSendBaseWeights = (top : ℕ) (members : List DraftWeight) (numbers : List ℕ) → length numbers ≡ length members → HasZeroFirstOrNone members numbers → IsRising (bases members) → IsRising numbers → AllByRecursion (λ w. w ≤ top) (bases members) → AllByRecursion (λ n. n ≤ top) numbers → AreRunsOf top members numbers
