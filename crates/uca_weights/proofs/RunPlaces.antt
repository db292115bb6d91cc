-- The position of a weight among rising runs, and the image that it has there.
use Rattle.std.proofs.Common.{◌≡◌, inl, inr, ℕ, zero, suc, ◌+◌, ◌-◌, ◌<◌, ◌≤◌, Bool, true, false, leb, List, [], ◌∷◌, Some, None, length, get_or, cond, refl, ap, sym, ◌∙◌, subst, arith}
use Rattle.std.proofs.lemmas.Bool.{leb-true, leb-false, cases_order}
use Rattle.std.proofs.lemmas.Bool.Decides.{nat_tests}
use Rattle.std.proofs.lemmas.List.Recursion.{found_at, found_nowhere}
use Rattle.std.specs.List.Sorted.{IsNonDecreasingBy, IsPartitionPoint}
use Rattle.uca_weights.specs.declared.maps.Run.{Run}
use Rattle.uca_weights.specs.declared.Level.{Level}
use Rattle.uca_weights.specs.declared.Level.TheVariants.{One, Two, Three}
use Rattle.uca_weights.specs.Runs.{run_image, weight_image, weights_end}
use Rattle.uca_weights.proofs.RunMaps.{AreRunsFrom, holds}

-- ---- By position

-- each run begins at the lower bound or above
pub from_at : (end from to : ℕ) (runs : List Run) → AreRunsFrom end from to runs → (k : ℕ) (d : Run) → k < length runs → from ≤ (get_or runs k d).from
from_at end from to [] h k d l = absurd (omega arith)
from_at end from to (r ∷ runs) h zero d l = h.0
from_at end from to (r ∷ runs) h (suc k) d l =
    let low = h.0 in
    let rest = from_at end (r.from + r.count) (r.to + r.count) runs h.4 k d (omega arith) in omega arith

-- the images of each run end at the upper bound or below
pub end_at : (end from to : ℕ) (runs : List Run) → AreRunsFrom end from to runs → (k : ℕ) (d : Run) → k < length runs
    → (get_or runs k d).to + (get_or runs k d).count ≤ end
end_at end from to [] h k d l = absurd (omega arith)
end_at end from to (r ∷ runs) h zero d l = h.3
end_at end from to (r ∷ runs) h (suc k) d l = end_at end (r.from + r.count) (r.to + r.count) runs h.4 k d (omega arith)

-- a run ends where a later one begins, or below
pub apart_at : (end from to : ℕ) (runs : List Run) → AreRunsFrom end from to runs → (i j : ℕ) (d : Run) → i < j → j < length runs
    → (get_or runs i d).from + (get_or runs i d).count ≤ (get_or runs j d).from
apart_at end from to [] h i j d l m = absurd (omega arith)
apart_at end from to (r ∷ runs) h i zero d l m = absurd (omega arith)
apart_at end from to (r ∷ runs) h zero (suc j) d l m = from_at end (r.from + r.count) (r.to + r.count) runs h.4 j d (omega arith)
apart_at end from to (r ∷ runs) h (suc i) (suc j) d l m =
    apart_at end (r.from + r.count) (r.to + r.count) runs h.4 i j d (omega arith) (omega arith)

-- the ends of runs never fall
pub never_falling : (end from to : ℕ) (runs : List Run) → AreRunsFrom end from to runs → IsNonDecreasingBy (λ (r : Run). r.from + r.count) runs
never_falling end from to runs h i j d l m = elim (cases_order i j) [
  | inl e ↦
      let P : ℕ → Type 0 = λ k. (get_or runs i d).from + (get_or runs i d).count ≤ (get_or runs k d).from + (get_or runs k d).count in
      subst P e (omega arith)
  | inr (inl less) ↦ let apart = apart_at end from to runs h i j d less m in omega arith
  | inr (inr more) ↦ absurd (omega arith)
]

-- ---- The position of a weight

-- the runs before the position end at the weight or below, and those from it on end above
abbrev pub IsPlace : ℕ → List Run → ℕ → Type 0
IsPlace w runs at = IsPartitionPoint (λ r. r.from + r.count ≤ w) (λ r. w < r.from + r.count) runs at

-- the position as `partition_point` finds it
pub place_from_tests : (runs : List Run) (w at : ℕ)
    → IsPartitionPoint (λ r. leb (r.from + r.count) w ≡ true) (λ r. leb (r.from + r.count) w ≡ false) runs at → IsPlace w runs at
place_from_tests runs w at h = (λ k d a b. leb-true _ _ (h.0 k d a b), λ k d a b. leb-false _ _ (h.1 k d a b))

-- the run does not contain a weight below it
below_run : (r : Run) (w : ℕ) → w < r.from → holds r w ≡ false
below_run r w h = grind (arith, nat_tests)

-- or above it
above_run : (r : Run) (w : ℕ) → r.from + r.count ≤ w → holds r w ≡ false
above_run r w h = grind (arith, nat_tests)

-- it contains a weight between its ends
within_run : (r : Run) (w : ℕ) → r.from ≤ w → w < r.from + r.count → holds r w ≡ true
within_run r w low high = grind (arith, nat_tests)

-- the run at the position has the weight
pub image_found : (runs : List Run) (w at : ℕ) → IsPlace w runs at → (d : Run) → at < length runs → (get_or runs at d).from ≤ w
    → run_image runs w ≡ Some ((get_or runs at d).to + (w - (get_or runs at d).from))
image_found runs w at place d l low =
    found_at (λ rs. run_image rs w) (λ r. holds r w) (λ r. Some (r.to + (w - r.from))) None refl (λ _ _. refl) runs at d l
    (λ k below. above_run (get_or runs k d) w (place.0 k d (omega arith) below))
    (within_run (get_or runs at d) w low (place.1 at d (omega arith) l))

-- the run at the position, if there is one, begins above the weight
pub image_missed : (end from to : ℕ) (runs : List Run) → AreRunsFrom end from to runs → (w at : ℕ) → IsPlace w runs at → (d : Run)
    → (at < length runs → w < (get_or runs at d).from) → run_image runs w ≡ None
image_missed end from to runs h w at place d misses =
    found_nowhere (λ rs. run_image rs w) (λ r. holds r w) (λ r. Some (r.to + (w - r.from))) None refl (λ _ _. refl) runs d outside
  where
    outside : (k : ℕ) → k < length runs → holds (get_or runs k d) w ≡ false
    outside k l = elim (cases_order k at) [
      | inl e ↦
          let P : ℕ → Type 0 = λ i. i < length runs → holds (get_or runs i d) w ≡ false in
          subst P (sym e) (λ m. below_run (get_or runs at d) w (misses m)) l
      | inr (inl less) ↦ above_run (get_or runs k d) w (place.0 k d (omega arith) less)
      | inr (inr more) ↦
          let above = misses (omega arith) in
          let apart = apart_at end from to runs h at k d more l in
          below_run (get_or runs k d) w (omega arith)
    ]

-- ---- The map of a level

-- a weight that does not stay by itself has its image by the runs
pub image_by_runs : (level : Level) (runs : List Run) (w : ℕ) (kept : Bool)
    → weight_image level runs w ≡ cond kept (Some w) (run_image runs w) → kept ≡ false → weight_image level runs w ≡ run_image runs w
image_by_runs level runs w kept h e = h ∙ ap (λ b. cond b (Some w) (run_image runs w)) e

-- the weights of every level fit 16 bits
pub ends_fit : (level : Level) → weights_end level ≤ 0x1_0000
ends_fit One = omega arith
ends_fit Two = omega arith
ends_fit Three = omega arith
