-- Proper runs make a rising map, runs with an error are not proper, and runs with equal sides move no weight.
use Rattle.std.proofs.Common.{◌≡◌, ◌⊎◌, inl, inr, ℕ, zero, suc, ◌+◌, ◌-◌, ◌<◌, ◌≤◌, Bool, true, false, ◌&&◌, List, [], ◌∷◌, Option, Some, None, nat_le, nat_lt, nat_eq, if◌then◌else◌, refl, ap, ◌∙◌, sym, arith}
use Rattle.std.specs.Bool.{⊤}
use Rattle.std.specs.List.{AllByRecursion}
use Rattle.std.proofs.lemmas.Bool.Decides.{nat_tests}
use Rattle.std.proofs.lemmas.Option.{same_Some}
use Rattle.uca_weights.specs.declared.Level.{Level}
use Rattle.uca_weights.specs.declared.Level.TheVariants.{One, Two, Three}
use Rattle.uca_weights.specs.declared.maps.Run.{Run}
use Rattle.uca_weights.specs.declared.maps.MapFaultKind.{MapFaultKind}
use Rattle.uca_weights.specs.declared.maps.MapFaultKind.TheVariants as kinds
use Rattle.uca_weights.specs.Maps.{Sends}
use Rattle.uca_weights.specs.Runs.{run_image, weight_image, weights_end, AreRising, IsProperRun, RefusesRun, IsFirstRefused, ProperRunsRise, FaultyRunsAreNotProper, RunsThatStayKeepWeights}

-- ---- The image of a weight

-- the weight is one of the run's
abbrev pub Holds : Run → ℕ → Type 0
Holds r w = (r.from ≤ w) × (w < r.from + r.count)

-- the test whether it is
abbrev pub holds : Run → ℕ → Bool
holds r w = nat_le r.from w && nat_lt w (r.from + r.count)

-- a test that succeeds says so
holds_true : (r : Run) (w : ℕ) → holds r w ≡ true → Holds r w
holds_true r w h = grind (arith, nat_tests)

-- a weight of the first run has its image there, and another its image by the other runs
image_cases : (r : Run) (runs : List Run) (w : ℕ)
    → (Holds r w × (run_image (r ∷ runs) w ≡ Some (r.to + (w - r.from)))) ⊎ (run_image (r ∷ runs) w ≡ run_image runs w)
image_cases r runs w = go (holds r w) refl
  where
    go : (b : Bool) → holds r w ≡ b
        → (Holds r w × (run_image (r ∷ runs) w ≡ Some (r.to + (w - r.from)))) ⊎ (run_image (r ∷ runs) w ≡ run_image runs w)
    go true e = inl (holds_true r w e, ap (λ b. if b then Some (r.to + (w - r.from)) else run_image runs w) e)
    go false e = inr (ap (λ b. if b then Some (r.to + (w - r.from)) else run_image runs w) e)

-- ---- Runs between bounds

-- the runs lie one above the other from these weights on, up to an end
abbrev pub AreRunsFrom : ℕ → ℕ → ℕ → List Run → Type 0
AreRunsFrom end from to [] = ⊤
AreRunsFrom end from to (r ∷ runs) =
    (from ≤ r.from) × (to ≤ r.to) × (r.from + r.count ≤ end) × (r.to + r.count ≤ end) × AreRunsFrom end (r.from + r.count) (r.to + r.count) runs

-- rising runs after a run lie above it
pub runs_after : (level : Level) (s : Run) (runs : List Run)
    → AreRising level (Some s) runs → AreRunsFrom (weights_end level) (s.from + s.count) (s.to + s.count) runs
runs_after level s [] h = tt
runs_after level s (r ∷ runs) h =
    (h.0.above.0, h.0.above.1, h.0.range.from_end, h.0.range.to_end, runs_after level r runs h.1)

-- rising runs leave out 0
pub runs_from : (level : Level) (runs : List Run) → AreRising level None runs → AreRunsFrom (weights_end level) 1 1 runs
runs_from level [] h = tt
runs_from level (r ∷ runs) h =
    (omega (arith, h.0.range.from_zero), omega (arith, h.0.range.to_zero), h.0.range.from_end, h.0.range.to_end, runs_after level r runs h.1)

-- a weight with an image lies between the bounds, and so does its image
pub run_bounds : (end from to : ℕ) (runs : List Run) (w x : ℕ)
    → AreRunsFrom end from to runs → Sends (run_image runs) w x → (from ≤ w) × (w < end) × (to ≤ x) × (x < end)
run_bounds end from to [] w x h e = absurd (cc)
run_bounds end from to (r ∷ runs) w x h e = elim (image_cases r runs w) [
  | inl here ↦
      let same : r.to + (w - r.from) ≡ x = same_Some _ _ (sym here.1 ∙ e) in
      let low : r.from ≤ w = here.0.0 in let high : w < r.from + r.count = here.0.1 in
      (omega arith, omega arith, omega arith, omega arith)
  | inr there ↦
      let rest = run_bounds end (r.from + r.count) (r.to + r.count) runs w x h.4 (sym there ∙ e) in
      (omega arith, rest.1, omega arith, rest.3)
]

-- of two weights with images the greater has the greater image
pub run_rising : (end from to : ℕ) (runs : List Run) (v w x y : ℕ)
    → AreRunsFrom end from to runs → Sends (run_image runs) v x → Sends (run_image runs) w y → v < w → x < y
run_rising end from to [] v w x y h e f l = absurd (cc)
run_rising end from to (r ∷ runs) v w x y h e f l = elim (image_cases r runs v) [
  | inl here ↦
      let image : r.to + (v - r.from) ≡ x = same_Some _ _ (sym here.1 ∙ e) in
      let low : r.from ≤ v = here.0.0 in let high : v < r.from + r.count = here.0.1 in
      elim (image_cases r runs w) [
        | inl also ↦
            let other : r.to + (w - r.from) ≡ y = same_Some _ _ (sym also.1 ∙ f) in
            omega arith
        | inr there ↦
            let rest = run_bounds end (r.from + r.count) (r.to + r.count) runs w y h.4 (sym there ∙ f) in
            omega arith
      ]
  | inr there ↦
      let before = run_bounds end (r.from + r.count) (r.to + r.count) runs v x h.4 (sym there ∙ e) in
      elim (image_cases r runs w) [
        | inl also ↦
            let bound : w < r.from + r.count = also.0.1 in
            absurd (omega arith)
        | inr there_too ↦ run_rising end (r.from + r.count) (r.to + r.count) runs v w x y h.4 (sym there ∙ e) (sym there_too ∙ f) l
      ]
]

-- ---- The maps of levels

-- what a test of a number against 0 chooses, by cases
zero_cases : (w : ℕ) (o : Option ℕ)
    → ((w ≡ 0) × ((if nat_eq w 0 then Some 0 else o) ≡ Some 0)) ⊎ ((0 < w) × ((if nat_eq w 0 then Some 0 else o) ≡ o))
zero_cases w o = go (nat_eq w 0) refl
  where
    go : (t : Bool) → nat_eq w 0 ≡ t
        → ((w ≡ 0) × ((if nat_eq w 0 then Some 0 else o) ≡ Some 0)) ⊎ ((0 < w) × ((if nat_eq w 0 then Some 0 else o) ≡ o))
    go true e = inl (grind (arith, nat_tests), ap (λ t. if t then Some 0 else o) e)
    go false e = inr (grind (arith, nat_tests), ap (λ t. if t then Some 0 else o) e)

-- the images by the runs alone, and 0 is its own image
abbrev pub with_zero : List Run → ℕ → Option ℕ
with_zero runs w = if nat_eq w 0 then Some 0 else run_image runs w

-- 0 lies below all runs
pub zero_rising : (end : ℕ) (runs : List Run) (v w x y : ℕ)
    → AreRunsFrom end 1 1 runs → Sends (with_zero runs) v x → Sends (with_zero runs) w y → v < w → x < y
zero_rising end runs v w x y h e f l = elim (zero_cases w (run_image runs w)) [
  | inl none ↦ let same : w ≡ 0 = none.0 in absurd (omega arith)
  | inr some ↦
      let sent = sym some.1 ∙ f in
      let bounds = run_bounds end 1 1 runs w y h sent in
      elim (zero_cases v (run_image runs v)) [
        | inl none ↦
            let image : 0 ≡ x = same_Some _ _ (sym none.1 ∙ e) in
            let low : 1 ≤ y = bounds.2 in
            omega arith
        | inr also ↦ run_rising end 1 1 runs v w x y h (sym also.1 ∙ e) sent l
      ]
]

-- what a test of a weight against 8000 chooses, by cases
high_cases : (w : ℕ) (a b : Option ℕ)
    → ((0x8000 ≤ w) × ((if nat_le 0x8000 w then a else b) ≡ a)) ⊎ ((w < 0x8000) × ((if nat_le 0x8000 w then a else b) ≡ b))
high_cases w a b = go (nat_le 0x8000 w) refl
  where
    go : (t : Bool) → nat_le 0x8000 w ≡ t
        → ((0x8000 ≤ w) × ((if nat_le 0x8000 w then a else b) ≡ a)) ⊎ ((w < 0x8000) × ((if nat_le 0x8000 w then a else b) ≡ b))
    go true e = inl (grind (arith, nat_tests), ap (λ t. if t then a else b) e)
    go false e = inr (grind (arith, nat_tests), ap (λ t. if t then a else b) e)

-- a weight of level 1 and its image: both are the same weight from 8000 up, or the runs say it
first_cases : (runs : List Run) (w x : ℕ) → Sends (weight_image One runs) w x
    → ((0x8000 ≤ w) × (w ≡ x)) ⊎ ((w < 0x8000) × Sends (with_zero runs) w x)
first_cases runs w x e = elim (zero_cases w (if nat_le 0x8000 w then Some w else run_image runs w)) [
  | inl none ↦ inr (omega (arith, none.0), zero_sent none.0 (sym none.1 ∙ e))
  | inr some ↦
      elim (high_cases w (Some w) (run_image runs w)) [
        | inl high ↦ inl (high.0, same_Some w x (sym high.1 ∙ (sym some.1 ∙ e)))
        | inr low ↦ inr (low.0, run_sent some.0 (sym low.1 ∙ (sym some.1 ∙ e)))
      ]
]
  where
    zero_sent : w ≡ 0 → Some 0 ≡ Some x → Sends (with_zero runs) w x
    zero_sent same image = elim (zero_cases w (run_image runs w)) [
      | inl none ↦ none.1 ∙ image
      | inr some ↦ absurd (omega (arith, same, some.0))
    ]

    run_sent : 0 < w → Sends (run_image runs) w x → Sends (with_zero runs) w x
    run_sent more image = elim (zero_cases w (run_image runs w)) [
      | inl none ↦ absurd (omega (arith, more, none.0))
      | inr some ↦ some.1 ∙ image
    ]

-- what the runs say at level 1 stays below 8000
first_low : (runs : List Run) (w x : ℕ) → AreRunsFrom 0x8000 1 1 runs → Sends (with_zero runs) w x → x < 0x8000
first_low runs w x h e = elim (zero_cases w (run_image runs w)) [
  | inl none ↦ let image : 0 ≡ x = same_Some _ _ (sym none.1 ∙ e) in omega arith
  | inr some ↦ (run_bounds 0x8000 1 1 runs w x h (sym some.1 ∙ e)).3
]

-- the map of level 1 rises
first_rising : (runs : List Run) (v w x y : ℕ)
    → AreRunsFrom 0x8000 1 1 runs → Sends (weight_image One runs) v x → Sends (weight_image One runs) w y → v < w → x < y
first_rising runs v w x y h e f l = elim (first_cases runs w y f) [
  | inl high ↦
      elim (first_cases runs v x e) [
        | inl also ↦ let a : v ≡ x = also.1 in let b : w ≡ y = high.1 in omega arith
        | inr low ↦
            let below = first_low runs v x h low.1 in
            let b : w ≡ y = high.1 in
            let above : 0x8000 ≤ w = high.0 in omega arith
      ]
  | inr low ↦
      elim (first_cases runs v x e) [
        | inl high ↦ let above : 0x8000 ≤ v = high.0 in let below : w < 0x8000 = low.0 in absurd (omega arith)
        | inr also ↦ zero_rising 0x8000 runs v w x y h also.1 low.1 l
      ]
]

-- the map of level 1 keeps the weights from 8000 up
first_keeps : (runs : List Run) (w : ℕ) → 0x8000 ≤ w → Sends (weight_image One runs) w w
first_keeps runs w h = elim (zero_cases w (if nat_le 0x8000 w then Some w else run_image runs w)) [
  | inl none ↦ let same : w ≡ 0 = none.0 in absurd (omega arith)
  | inr some ↦
      elim (high_cases w (Some w) (run_image runs w)) [
        | inl high ↦ some.1 ∙ high.1
        | inr low ↦ let below : w < 0x8000 = low.0 in absurd (omega arith)
      ]
]

-- the map of level 1 sends the weights below 8000 below it
first_stays : (runs : List Run) (w x : ℕ) → AreRunsFrom 0x8000 1 1 runs → Sends (weight_image One runs) w x → w < 0x8000 → x < 0x8000
first_stays runs w x h e l = elim (first_cases runs w x e) [
  | inl high ↦ let above : 0x8000 ≤ w = high.0 in absurd (omega arith)
  | inr low ↦ first_low runs w x h low.1
]

-- proper runs make a rising map
pub IsRisingMap-runs : ProperRunsRise
IsRisingMap-runs One runs h =
    let from = runs_from One runs h.rise in
    record {
      rising = λ v w x y e f l. first_rising runs v w x y from e f l;
      zero = refl;
      fixed = (λ w high _. first_keeps runs w high, λ w x e l. first_stays runs w x from e l);
    }
IsRisingMap-runs Two runs h =
    let from = runs_from Two runs h.rise in
    record { rising = λ v w x y e f l. zero_rising 0x1_0000 runs v w x y from e f l; zero = refl; fixed = h.fixed }
IsRisingMap-runs Three runs h =
    let from = runs_from Three runs h.rise in
    record { rising = λ v w x y e f l. zero_rising 0x1_0000 runs v w x y from e f l; zero = refl; fixed = h.fixed }

-- ---- Runs with an error

-- a rejected run is not proper
refused_not_proper : (level : Level) (previous : Option Run) (r : Run) (kind : MapFaultKind)
    → RefusesRun level previous r kind → IsProperRun level previous r → ⊥
refused_not_proper level previous r kinds.Empty h proper = omega (arith, h, proper.some)
refused_not_proper level previous r kinds.OutOfRange h proper = h.1 proper.range
refused_not_proper level previous r kinds.NotRising h proper = h.2 proper.above
refused_not_proper level previous r kinds.Fixed h proper = h

-- where a run is rejected, the runs do not rise
pub first_refused : (level : Level) (previous : Option Run) (runs : List Run) (index : ℕ) (kind : MapFaultKind)
    → IsFirstRefused level previous runs index kind → AreRising level previous runs → ⊥
first_refused level previous [] index kind h rise = h
first_refused level previous (r ∷ runs) zero kind h rise = refused_not_proper level previous r kind h rise.0
first_refused level previous (r ∷ runs) (suc index) kind h rise = first_refused level (Some r) runs index kind h.1 rise.1

-- runs with an error are not proper
pub faulty_not_proper : FaultyRunsAreNotProper
faulty_not_proper level runs fault (inl refused) proper = first_refused level None runs fault.run fault.kind refused proper.rise
faulty_not_proper level runs fault (inr loses) proper = loses.lost proper.fixed

-- ---- Runs that stay

-- such runs send no weight to another
stay_sent : (runs : List Run) (w x : ℕ) → AllByRecursion (λ r. r.from ≡ r.to) runs → Sends (run_image runs) w x → w ≡ x
stay_sent [] w x h e = absurd (cc)
stay_sent (r ∷ runs) w x h e = elim (image_cases r runs w) [
  | inl here ↦
      let same : r.to + (w - r.from) ≡ x = same_Some _ _ (sym here.1 ∙ e) in
      let low : r.from ≤ w = here.0.0 in let stays : r.from ≡ r.to = h.0 in
      omega arith
  | inr there ↦ stay_sent runs w x h.1 (sym there ∙ e)
]

-- nor does 0 move
stay_with_zero : (runs : List Run) (w x : ℕ) → AllByRecursion (λ r. r.from ≡ r.to) runs → Sends (with_zero runs) w x → w ≡ x
stay_with_zero runs w x h e = elim (zero_cases w (run_image runs w)) [
  | inl none ↦ none.0 ∙ same_Some _ _ (sym none.1 ∙ e)
  | inr some ↦ stay_sent runs w x h (sym some.1 ∙ e)
]

-- runs that stay move no weight
pub runs_stay : RunsThatStayKeepWeights
runs_stay One runs h w x e = elim (first_cases runs w x e) [ inl high ↦ high.1 | inr low ↦ stay_with_zero runs w x h low.1 ]
runs_stay Two runs h w x e = stay_with_zero runs w x h e
runs_stay Three runs h w x e = stay_with_zero runs w x h e
