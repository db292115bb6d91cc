-- The runs of a list rise and send each base weight to its number.
use Rattle.std.proofs.Common.{◌≡◌, ◌⊎◌, inl, inr, ℕ, ◌+◌, ◌-◌, ◌<◌, ◌≤◌, Bool, true, false, ◌&&◌, List, [], ◌∷◌, length, Some, None, nat_eq}
use Rattle.std.proofs.Common.{if◌then◌else◌, refl, sym, ap, ◌∙◌, arith, subst}
use Rattle.std.proofs.lemmas.Bool.{cases_eq, cases_lt}
use Rattle.std.proofs.lemmas.Bool.Decides.{nat_tests}
use Rattle.std.specs.List.{AllByRecursion}
use Rattle.uca_weights.specs.declared.maps.Run.{Run}
use Rattle.uca_weights.specs.Runs.{run_image}
use Rattle.uca_weights.proofs.Lists.{each_weaker}
use Rattle.uca_plans.specs.declared.drafts.DraftWeight.{DraftWeight}
use Rattle.uca_plans.specs.declared.drafts.DraftWeight.TheVariants.{Base, New}
use Rattle.uca_plans.specs.Lists.{number_in}
use Rattle.uca_plans.specs.ListLaws.{IsRising, IsAmong}
use Rattle.uca_plans.specs.Plans.{run_before, runs_of}
use Rattle.uca_plans.specs.Runs.{AreRunsFrom, bases, HasZeroFirstOrNone, RunsSendBaseWeights}

-- ---- One weight more in front

-- the weight is in the first run, which goes on from it, or in a run of its own
pub before_cases : (from to : ℕ) (r : Run) (runs : List Run)
    → ((r.from ≡ from + 1) × (r.to ≡ to + 1) × (run_before from to (r ∷ runs) ≡ record { from = from; to = to; count = r.count + 1 } ∷ runs))
    ⊎ ((r.from ≡ from + 1 → r.to ≡ to + 1 → ⊥) × (run_before from to (r ∷ runs) ≡ record { from = from; to = to; count = 1 } ∷ r ∷ runs))
before_cases from to r runs = go (nat_eq r.from (from + 1) && nat_eq r.to (to + 1)) refl
  where
    -- by the test
    go : (b : Bool) → (nat_eq r.from (from + 1) && nat_eq r.to (to + 1)) ≡ b
        → ((r.from ≡ from + 1) × (r.to ≡ to + 1) × (run_before from to (r ∷ runs) ≡ record { from = from; to = to; count = r.count + 1 } ∷ runs))
        ⊎ ((r.from ≡ from + 1 → r.to ≡ to + 1 → ⊥) × (run_before from to (r ∷ runs) ≡ record { from = from; to = to; count = 1 } ∷ r ∷ runs))
    go true e = inl (grind (arith, nat_tests), grind (arith, nat_tests), rw e)
    go false e = inr (λ first second. grind (arith, nat_tests), rw e)

-- a weight of the first run has its image there
image_here : (r : Run) (runs : List Run) (w : ℕ) → r.from ≤ w → w < r.from + r.count → run_image (r ∷ runs) w ≡ Some (r.to + (w - r.from))
image_here r runs w low high = grind (arith, nat_tests)

-- another weight has its image by the other runs
image_below : (r : Run) (runs : List Run) (w : ℕ) → w < r.from → run_image (r ∷ runs) w ≡ run_image runs w
image_below r runs w low = grind (arith, nat_tests)

image_above : (r : Run) (runs : List Run) (w : ℕ) → r.from + r.count ≤ w → run_image (r ∷ runs) w ≡ run_image runs w
image_above r runs w high = grind (arith, nat_tests)

-- the weight in front is sent to its number
alone_here : (from to : ℕ) (runs : List Run) → run_image (record { from = from; to = to; count = 1 } ∷ runs) from ≡ Some to
alone_here from to runs =
    let r : Run = record { from = from; to = to; count = 1 } in
    image_here r runs from (omega arith) (omega arith) ∙ ap Some (omega arith)

alone_elsewhere : (from to : ℕ) (runs : List Run) (w : ℕ) → (w ≡ from → ⊥)
    → run_image (record { from = from; to = to; count = 1 } ∷ runs) w ≡ run_image runs w
alone_elsewhere from to runs w other =
    let r : Run = record { from = from; to = to; count = 1 } in
    elim (cases_lt w from) [
      | inl below ↦ image_below r runs w below
      | inr not_below ↦ image_above r runs w (beyond w not_below other)
    ]
  where
    -- not below it and not it is above it
    beyond : (w : ℕ) → from ≤ w → (w ≡ from → ⊥) → from + 1 ≤ w
    beyond w low other = grind arith

before_here : (from to : ℕ) (runs : List Run) → run_image (run_before from to runs) from ≡ Some to
before_here from to [] = alone_here from to []
before_here from to (r ∷ runs) = elim (before_cases from to r runs) [
  | inl joined ↦
      let s : Run = record { from = from; to = to; count = r.count + 1 } in
      rw joined.2 (image_here s runs from (omega arith) (omega arith) ∙ ap Some (omega arith))
  | inr apart ↦ rw apart.1 (alone_here from to (r ∷ runs))
]

-- the others are sent as they were
before_elsewhere : (from to : ℕ) (runs : List Run) (w : ℕ) → (w ≡ from → ⊥) → run_image (run_before from to runs) w ≡ run_image runs w
before_elsewhere from to [] w other = alone_elsewhere from to [] w other
before_elsewhere from to (r ∷ runs) w other = elim (before_cases from to r runs) [
  | inl joined ↦ rw joined.2 (in_joined joined.0 joined.1)
  | inr apart ↦ rw apart.1 (alone_elsewhere from to (r ∷ runs) w other)
]
  where
    -- where the first run grows
    in_joined : r.from ≡ from + 1 → r.to ≡ to + 1 → run_image (record { from = from; to = to; count = r.count + 1 } ∷ runs) w ≡ run_image (r ∷ runs) w
    in_joined first second =
        let s : Run = record { from = from; to = to; count = r.count + 1 } in
        elim (cases_lt w from) [
          | inl below ↦ image_below s runs w below ∙ sym (image_below r runs w (omega arith))
          | inr not_below ↦ elim (cases_lt w (r.from + r.count)) [
            | inl within ↦
                let beyond : from < w = above w not_below other in
                image_here s runs w (omega arith) (omega arith) ∙ ap Some (omega arith) ∙ sym (image_here r runs w (omega arith) within)
            | inr past ↦ image_above s runs w (omega arith) ∙ sym (image_above r runs w past)
          ]
        ]
      where
        -- not below it and not it is above it
        above : (w : ℕ) → from ≤ w → (w ≡ from → ⊥) → from < w
        above w low other = grind arith

-- runs rise with one weight more in front
before_rises : (end f t from to : ℕ) (runs : List Run) → f ≤ from → t ≤ to → from < end → to < end → AreRunsFrom end (from + 1) (to + 1) runs
    → AreRunsFrom end f t (run_before from to runs)
before_rises end f t from to [] f_low t_low from_end to_end rise = (omega arith, f_low, t_low, omega arith, omega arith, tt)
before_rises end f t from to (r ∷ runs) f_low t_low from_end to_end rise = elim (before_cases from to r runs) [
  | inl joined ↦
      let from_rest : r.from + r.count ≡ from + (r.count + 1) = omega (arith, joined.0) in
      let to_rest : r.to + r.count ≡ to + (r.count + 1) = omega (arith, joined.1) in
      let rest : AreRunsFrom end (from + (r.count + 1)) (to + (r.count + 1)) runs = rw (from_rest, to_rest) at rise.5 in
      rw joined.2 (omega arith, f_low, t_low, omega (arith, from_rest, rise.3), omega (arith, to_rest, rise.4), rest)
  | inr apart ↦ rw apart.1 (omega arith, f_low, t_low, omega arith, omega arith, rise)
]

-- ---- The runs of a list

-- the runs of a list whose base weights and numbers begin at a weight rise from there
pub runs_rise : (top f t : ℕ) (ms : List DraftWeight) (ns : List ℕ) → 0 < f
    → AllByRecursion (λ w. f ≤ w) (bases ms) → AllByRecursion (λ n. t ≤ n) ns → IsRising (bases ms) → IsRising ns
    → AllByRecursion (λ w. w ≤ top) (bases ms) → AllByRecursion (λ n. n ≤ top) ns → AreRunsFrom (top + 1) f t (runs_of ms ns)
runs_rise top f t [] ns some f_low t_low f_rise t_rise f_top t_top = tt
runs_rise top f t (m ∷ ms) [] some f_low t_low f_rise t_rise f_top t_top = tt
runs_rise top f t (Base w ∷ ms) (n ∷ ns) some f_low t_low f_rise t_rise f_top t_top =
    let rest = runs_rise top (w + 1) (n + 1) ms ns (omega arith) (each_weaker (λ v. w < v) (λ v. w + 1 ≤ v) (λ v h. omega (arith, h)) (bases ms) f_rise.0)
    (each_weaker (λ v. n < v) (λ v. n + 1 ≤ v) (λ v h. omega (arith, h)) ns t_rise.0) f_rise.1 t_rise.1 f_top.1 t_top.1 in
    let not_zero : nat_eq w 0 ≡ false = positive w (omega (arith, f_low.0)) in
    rw not_zero (before_rises (top + 1) f t w n (runs_of ms ns) f_low.0 t_low.0 (omega (arith, f_top.0)) (omega (arith, t_top.0)) rest)
  where
    -- a weight other than 0
    positive : (w : ℕ) → 0 < w → nat_eq w 0 ≡ false
    positive w some = grind (arith, nat_tests)
runs_rise top f t (New p ∷ ms) (n ∷ ns) some f_low t_low f_rise t_rise f_top t_top =
    runs_rise top f t ms ns some f_low t_low.1 f_rise t_rise.1 f_top t_top.1

-- a base weight in front: it is 0 and in no run, or it is put before the others
first_base : (w n : ℕ) (ms : List DraftWeight) (ns : List ℕ)
    → ((w ≡ 0) × (runs_of (Base w ∷ ms) (n ∷ ns) ≡ runs_of ms ns)) ⊎ (runs_of (Base w ∷ ms) (n ∷ ns) ≡ run_before w n (runs_of ms ns))
first_base w n ms ns = go (runs_of ms ns) (run_before w n (runs_of ms ns))
  where
    -- for any runs
    go : (a b : List Run) → ((w ≡ 0) × ((if nat_eq w 0 then a else b) ≡ a)) ⊎ ((if nat_eq w 0 then a else b) ≡ b)
    go a b = grind (arith, nat_tests)

-- the number of a base weight after another
number_later : (w v n : ℕ) (ms : List DraftWeight) (ns : List ℕ) → (w ≡ v → ⊥) → number_in (Base v ∷ ms) (n ∷ ns) (Base w) ≡ number_in ms ns (Base w)
number_later w v n ms ns other = go (number_in ms ns (Base w))
  where
    -- for any number after it
    go : (k : ℕ) → (if nat_eq w v then n else k) ≡ k
    go k = grind (arith, nat_tests)

-- the number of a base weight in front
number_first : (w v n : ℕ) (ms : List DraftWeight) (ns : List ℕ) → w ≡ v → number_in (Base v ∷ ms) (n ∷ ns) (Base w) ≡ n
number_first w v n ms ns same = go (number_in ms ns (Base w))
  where
    -- for any number after it
    go : (k : ℕ) → (if nat_eq w v then n else k) ≡ n
    go k = grind (arith, nat_tests)

-- a base weight is sent to its number
pub runs_send : (ms : List DraftWeight) (ns : List ℕ) (w : ℕ) → length ns ≡ length ms → 0 < w → IsAmong ms (Base w)
    → run_image (runs_of ms ns) w ≡ Some (number_in ms ns (Base w))
runs_send [] ns w same some among = absurd among
runs_send (m ∷ ms) [] w same some among = absurd (omega arith)
runs_send (Base v ∷ ms) (n ∷ ns) w same some among = elim (cases_eq w v) [
  | inl here ↦ elim (first_base v n ms ns) [
    | inl none ↦ absurd (omega (arith, none.0, some, here))
    | inr put ↦ ap (λ runs. run_image runs w) put ∙ (rw here (before_here v n (runs_of ms ns)) ∙ ap Some (sym (number_first w v n ms ns here)))
  ]
  | inr other ↦
      let later : run_image (runs_of ms ns) w ≡ Some (number_in (Base v ∷ ms) (n ∷ ns) (Base w)) =
      runs_send ms ns w (omega arith) some (behind other among) ∙ ap Some (sym (number_later w v n ms ns other)) in
      elim (first_base v n ms ns) [
        | inl none ↦ ap (λ runs. run_image runs w) none.1 ∙ later
        | inr put ↦ ap (λ runs. run_image runs w) put ∙ (before_elsewhere v n (runs_of ms ns) w other ∙ later)
      ]
]
  where
    -- another than the first comes after it
    behind : (w ≡ v → ⊥) → IsAmong (Base v ∷ ms) (Base w) → IsAmong ms (Base w)
    behind other (inl here) = absurd (other (cc))
    behind other (inr there) = there
runs_send (New p ∷ ms) (n ∷ ns) w same some (inl here) = absurd (cc)
runs_send (New p ∷ ms) (n ∷ ns) w same some (inr there) = runs_send ms ns w (omega arith) some there

-- no other weight is sent anywhere
pub runs_send_no_other : (ms : List DraftWeight) (ns : List ℕ) (w : ℕ) → (IsAmong ms (Base w) → ⊥) → run_image (runs_of ms ns) w ≡ None
runs_send_no_other [] ns w none = refl
runs_send_no_other (m ∷ ms) [] w none = refl
runs_send_no_other (Base v ∷ ms) (n ∷ ns) w none =
    let later = runs_send_no_other ms ns w (λ among. none (inr among)) in
    elim (first_base v n ms ns) [
      | inl none_here ↦ ap (λ runs. run_image runs w) none_here.1 ∙ later
      | inr put ↦ ap (λ runs. run_image runs w) put ∙ (before_elsewhere v n (runs_of ms ns) w (λ same. none (inl (ap Base (sym same)))) ∙ later)
    ]
runs_send_no_other (New p ∷ ms) (n ∷ ns) w none = runs_send_no_other ms ns w (λ among. none (inr among))

-- the runs rise from 1 on
runs_from_one : (top : ℕ) (ms : List DraftWeight) (ns : List ℕ) → HasZeroFirstOrNone ms ns → IsRising (bases ms) → IsRising ns
    → AllByRecursion (λ w. w ≤ top) (bases ms) → AllByRecursion (λ n. n ≤ top) ns → AreRunsFrom (top + 1) 1 1 (runs_of ms ns)
runs_from_one top ms ns (inl none) f_rise t_rise f_top t_top =
    runs_rise top 1 1 ms ns (omega arith) (each_weaker (λ w. 0 < w) (λ w. 1 ≤ w) (λ w h. omega (arith, h)) (bases ms) none.0)
    (each_weaker (λ n. 0 < n) (λ n. 1 ≤ n) (λ n h. omega (arith, h)) ns none.1) f_rise t_rise f_top t_top
runs_from_one top ms ns (inr first) f_rise t_rise f_top t_top =
    let rest = first.0 in
    let others = first.1 in
    let f_rise_here : IsRising (bases (Base 0 ∷ rest)) = subst (λ xs. IsRising (bases xs)) first.2 f_rise in
    let t_rise_here : IsRising (0 ∷ others) = subst (λ xs. IsRising xs) first.3 t_rise in
    let f_top_here : AllByRecursion (λ w. w ≤ top) (bases (Base 0 ∷ rest)) = subst (λ xs. AllByRecursion (λ w. w ≤ top) (bases xs)) first.2 f_top in
    let t_top_here : AllByRecursion (λ n. n ≤ top) (0 ∷ others) = subst (λ xs. AllByRecursion (λ n. n ≤ top) xs) first.3 t_top in
    let behind = runs_rise top 1 1 rest others (omega arith) (each_weaker (λ w. 0 < w) (λ w. 1 ≤ w) (λ w h. omega (arith, h)) (bases rest) f_rise_here.0)
    (each_weaker (λ n. 0 < n) (λ n. 1 ≤ n) (λ n h. omega (arith, h)) others t_rise_here.0) f_rise_here.1 t_rise_here.1 f_top_here.1 t_top_here.1 in
    rw (first.2, first.3) behind

-- runs send base weights to their numbers
pub send_base_weights : RunsSendBaseWeights
send_base_weights top members numbers same first f_rise t_rise f_top t_top = record {
  rise = runs_from_one top members numbers first f_rise t_rise f_top t_top;
  images = λ w some among. runs_send members numbers w same some among;
  others = λ w none. runs_send_no_other members numbers w none;
}
