-- Runs keep the order of levels.
use Rattle.std.proofs.Common.{◌≡◌, ◌⊎◌, inl, inr, ℕ, zero, suc, ◌+◌, ◌*◌, ◌-◌, ◌<◌, ◌≤◌, List, [], ◌∷◌, ◌++◌, Bool, true, false, cond, nat_eq, refl, ap, subst, arith}
use Rattle.std.specs.Prelude.{⊤}
use Rattle.std.specs.Ordering.{nat_cmp}
use Rattle.std.specs.declared.cmp.Ordering.{Ordering}
use Rattle.std.specs.declared.cmp.Ordering.TheVariants.{Less, Equal, Greater}
use Rattle.std.proofs.lemmas.Bool.Decides.{nat_tests}
use Rattle.uca_compact.specs.Forms.{Form, step, full, first_cell, IsForm, AreWeights}
use Rattle.uca_compact.specs.CompactKeys.{cell, run_before_greater, written, run_after, level_code}
use Rattle.uca_compact.proofs.Below.{IsBelow, below_append, below_after}
use Rattle.uca_compact.proofs.CellOrder.{FirstFrom, below_from, cell_from, cell_order}
use Rattle.std.proofs.Math.Nat.{mul-le-mul_right}

-- ---- Numbers of codes

-- a shorter run than a full one leaves room for its codes
pub room : (run longest step : ℕ) → run < longest → run * step + step ≤ longest * step
room run longest step h =
    let some : suc run ≤ longest = omega arith in
    omega (arith, mul-le-mul_right step some)

-- ---- The first byte after a run

abbrev pub FirstWithin : ℕ → ℕ → List ℕ → Type 0
FirstWithin low high bytes = (b : ℕ) × (rest : List ℕ) × (low ≤ b) × (b ≤ high) × (bytes ≡ b ∷ rest)

-- after one more common weight, by whether the run is full
pub one_more : (f : Form) (n : ℕ) (b : Bool) (more : ℕ → List ℕ) → nat_eq (suc (suc n)) f.longest ≡ b → suc n < f.longest
    → (suc (suc n) < f.longest → FirstWithin (suc (suc n) * step f) (first_cell f - suc (suc n)) (more (suc (suc n))))
    → FirstWithin (suc n * step f) (first_cell f - suc n) (cond b (full f ∷ []) [] ++ more (cond b 0 (suc (suc n))))
one_more f n true more is short h =
    (full f, more 0, omega (arith, room (suc n) f.longest (step f) short), omega arith, refl)
one_more f n false more is short h =
    let shorter : suc (suc n) < f.longest = grind (arith, nat_tests) in
    let found = h shorter in
    (found.0, found.1, omega (arith, found.2), omega (arith, found.3), found.4)

pub after_run : (f : Form) (end : ℕ) (ws : List ℕ) (n : ℕ) → end < f.ends → suc n < f.longest
    → FirstWithin (suc n * step f) (first_cell f - suc n) (level_code f end (suc n) ws)
after_run f end [] n ends short =
    (suc n * step f + end, [], omega arith, omega (arith, room (suc n) f.longest (step f) short), refl)
after_run f end (w ∷ ws) n ends short =
    elim (nat_cmp w f.common) as (λ o. FirstWithin (suc n * step f) (first_cell f - suc n) (written f (suc n) w o ++ level_code f end (run_after f (suc n) o) ws)) [
      | Less ↦ (suc n * step f + f.ends, cell 0 1 f.lesser f.common w ++ level_code f end 0 ws, omega arith, omega (arith, room (suc n) f.longest (step f) short), refl)
      | Equal ↦ one_more f n (nat_eq (suc (suc n)) f.longest) (λ run. level_code f end run ws) refl short (λ shorter. after_run f end ws (suc n) ends shorter)
      | Greater ↦ (first_cell f - suc n, cell (first_cell f) (suc f.common) f.greater 65536 w ++ level_code f end 0 ws, omega (arith, room (suc n) f.longest (step f) short), omega arith, refl)
    ]

-- ---- The first bytes of two levels, where the first level ends or has a lesser weight

-- the byte before a greater weight, or its cell
pub greater_from : (f : Form) (run w : ℕ) (more : List ℕ) → run < f.longest → FirstFrom (suc (full f)) ((run_before_greater f run ++ cell (first_cell f) (suc f.common) f.greater 65536 w) ++ more)
greater_from f zero w more short =
    let found = cell_from (first_cell f) (suc f.common) f.greater 65536 w in
    (found.0, found.1 ++ more, omega (arith, found.2), ap (λ bytes. bytes ++ more) found.3)
greater_from f (suc n) w more short =
    (first_cell f - suc n, cell (first_cell f) (suc f.common) f.greater 65536 w ++ more, omega arith, refl)

-- one more common weight leads past the codes of the run
pub common_from : (f : Form) (end run : ℕ) (ws : List ℕ) (b : Bool) → nat_eq (suc run) f.longest ≡ b → end < f.ends → run < f.longest
    → FirstWithin (run * step f + step f) (first_cell f - suc run) (cond b (full f ∷ []) [] ++ level_code f end (cond b 0 (suc run)) ws)
common_from f end run ws true is ends short =
    (full f, level_code f end 0 ws, omega (arith, room run f.longest (step f) short), omega arith, refl)
common_from f end run ws false is ends short =
    let shorter : suc run < f.longest = grind (arith, nat_tests) in
    let found = after_run f end ws run ends shorter in
    (found.0, found.1, omega (arith, found.2), omega (arith, found.3), found.4)

-- a weight leads past the ends of the run
pub weight_from : (f : Form) (end run w : ℕ) (ws : List ℕ) → end < f.ends → run < f.longest
    → FirstFrom (run * step f + f.ends) (level_code f end run (w ∷ ws))
weight_from f end run w ws ends short =
    elim (nat_cmp w f.common) as (λ o. FirstFrom (run * step f + f.ends) (written f run w o ++ level_code f end (run_after f run o) ws)) [
      | Less ↦ (run * step f + f.ends, cell 0 1 f.lesser f.common w ++ level_code f end 0 ws, omega arith, refl)
      | Equal ↦
          (let found = common_from f end run ws (nat_eq (suc run) f.longest) refl ends short in
          (found.0, found.1, omega (arith, found.2), found.4))
      | Greater ↦
          (let found = greater_from f run w (level_code f end 0 ws) short in
          (found.0, found.1, omega (arith, found.2, room run f.longest (step f) short), found.3))
    ]

-- after one more common weight the first byte is below that of a greater weight
pub common_below_greater : (f : Form) (d e run w : ℕ) (vs ws : List ℕ) → d < f.ends → run < f.longest
    → IsBelow (written f run f.common Equal ++ level_code f d (run_after f run Equal) vs) (written f run w Greater ++ level_code f e 0 ws)
common_below_greater f d e zero w vs ws ends short =
    let left = common_from f d zero vs (nat_eq 1 f.longest) refl ends short in
    let found = cell_from (first_cell f) (suc f.common) f.greater 65536 w in
    let lt : left.0 < found.0 = omega (arith, left.3, found.2) in
    rw (left.4, found.3) (inl lt)
common_below_greater f d e (suc n) w vs ws ends short =
    let left = common_from f d (suc n) vs (nat_eq (suc (suc n)) f.longest) refl ends short in
    let lt : left.0 < first_cell f - suc n = omega (arith, left.3) in
    rw left.4 (inl lt)

-- ---- Order

-- The first list with its end comes before the second. Where they first differ, it has the lesser weight or ends. Or
-- they are equal, and it has the lesser end.
abbrev pub Precedes : List ℕ → ℕ → List ℕ → ℕ → Type 0
Precedes [] d [] e = d < e
Precedes [] d (w ∷ ws) e = ⊤
Precedes (v ∷ vs) d [] e = ⊥
Precedes (v ∷ vs) d (w ∷ ws) e = (v < w) ⊎ ((v ≡ w) × Precedes vs d ws e)

pub run_stays_short : (f : Form) → IsForm f → (run : ℕ) (o : Ordering) → run < f.longest → run_after f run o < f.longest
run_stays_short f form run Less short = form.longest
run_stays_short f form run Greater short = form.longest
run_stays_short f form run Equal short = grind (arith, nat_tests, form.longest)

-- two cells of lesser weights
pub lesser_cells : (f : Form) → IsForm f → (v w : ℕ) → 0 < v → v < w → w < f.common → IsBelow (cell 0 1 f.lesser f.common v) (cell 0 1 f.lesser f.common w)
lesser_cells f form v w above less under =
    elim form.lesser [
      | inl none ↦ absurd (omega (arith, none.0))
      | inr rising ↦ cell_order 0 1 f.lesser f.common v w rising (omega arith) less under
    ]

-- two cells of greater ones
pub greater_cells : (f : Form) → IsForm f → (v w : ℕ) → f.common < v → v < w → w < 65536
    → IsBelow (cell (first_cell f) (suc f.common) f.greater 65536 v) (cell (first_cell f) (suc f.common) f.greater 65536 w)
greater_cells f form v w above less under =
    elim form.greater [
      | inl none ↦ absurd (omega (arith, none.0))
      | inr rising ↦ cell_order (first_cell f) (suc f.common) f.greater 65536 v w rising (omega arith) less under
    ]

-- of two weights the lesser is written below the greater, by how they compare to the common one
pub lesser_below : (f : Form) → IsForm f → (d e run v w : ℕ) (vs ws : List ℕ) → d < f.ends → e < f.ends → run < f.longest
    → 0 < v → v < w → w < 65536 → (o p : Ordering) → nat_cmp v f.common ≡ o → nat_cmp w f.common ≡ p
    → IsBelow (written f run v o ++ level_code f d (run_after f run o) vs) (written f run w p ++ level_code f e (run_after f run p) ws)
lesser_below f form d e run v w vs ws df ef short above less under Less Less hv hw =
    let lt : w < f.common = grind (arith, nat_tests) in
    inr (
      refl,
      below_append (cell 0 1 f.lesser f.common v) (cell 0 1 f.lesser f.common w) (level_code f d 0 vs) (level_code f e 0 ws)
          (lesser_cells f form v w above less lt),
    )
lesser_below f form d e run v w vs ws df ef short above less under Less Equal hv hw =
    let found = common_from f e run ws (nat_eq (suc run) f.longest) refl ef short in
    let lt : run * step f + f.ends < found.0 = omega (arith, found.2) in
    rw found.4 (inl lt)
lesser_below f form d e run v w vs ws df ef short above less under Less Greater hv hw =
    let found = greater_from f run w (level_code f e 0 ws) short in
    let lt : run * step f + f.ends < found.0 = omega (arith, found.2, room run f.longest (step f) short) in
    rw found.3 (inl lt)
lesser_below f form d e run v w vs ws df ef short above less under Equal Less hv hw = absurd (grind (arith, nat_tests))
lesser_below f form d e run v w vs ws df ef short above less under Equal Equal hv hw = absurd (grind (arith, nat_tests))
lesser_below f form d e run v w vs ws df ef short above less under Equal Greater hv hw = common_below_greater f d e run w vs ws df short
lesser_below f form d e run v w vs ws df ef short above less under Greater Less hv hw = absurd (grind (arith, nat_tests))
lesser_below f form d e run v w vs ws df ef short above less under Greater Equal hv hw = absurd (grind (arith, nat_tests))
lesser_below f form d e run v w vs ws df ef short above less under Greater Greater hv hw =
    let gt : f.common < v = grind (arith, nat_tests) in
    below_append (run_before_greater f run ++ cell (first_cell f) (suc f.common) f.greater 65536 v) (run_before_greater f run ++ cell (first_cell f) (suc f.common) f.greater 65536 w)
    (level_code f d 0 vs) (level_code f e 0 ws)
    (below_after (run_before_greater f run) (cell (first_cell f) (suc f.common) f.greater 65536 v) (cell (first_cell f) (suc f.common) f.greater 65536 w)
    (greater_cells f form v w gt less under))

-- after the same run
pub order_after : (f : Form) → IsForm f → (run : ℕ) → run < f.longest → (vs ws : List ℕ) (d e : ℕ) → AreWeights vs → AreWeights ws
    → d < f.ends → e < f.ends → Precedes vs d ws e → IsBelow (level_code f d run vs) (level_code f e run ws)
order_after f form run short [] [] d e av aw df ef h = inl (omega arith)
order_after f form run short [] (w ∷ ws) d e av aw df ef h =
    below_from (run * step f + f.ends) (run * step f + d) [] (level_code f e run (w ∷ ws)) (omega arith) (weight_from f e run w ws ef short)
order_after f form run short (v ∷ vs) [] d e av aw df ef h = absurd h
order_after f form run short (v ∷ vs) (w ∷ ws) d e av aw df ef (inl less) =
    lesser_below f form d e run v w vs ws df ef short av.0.0 less aw.0.1 (nat_cmp v f.common) (nat_cmp w f.common) refl refl
order_after f form run short (v ∷ vs) (w ∷ ws) d e av aw df ef (inr h) =
    let o = nat_cmp v f.common in
    subst (λ (u : ℕ). IsBelow (level_code f d run (v ∷ vs)) (level_code f e run (u ∷ ws))) h.0
    (below_after (written f run v o) (level_code f d (run_after f run o) vs) (level_code f e (run_after f run o) ws)
    (order_after f form (run_after f run o) (run_stays_short f form run o short) vs ws d e av.1 aw.1 df ef h.1))

-- the codes of levels from their beginning
pub levels_keep : (f : Form) → IsForm f → (vs ws : List ℕ) (d e : ℕ) → AreWeights vs → AreWeights ws → d < f.ends → e < f.ends
    → Precedes vs d ws e → IsBelow (level_code f d 0 vs) (level_code f e 0 ws)
levels_keep f form = order_after f form 0 form.longest
