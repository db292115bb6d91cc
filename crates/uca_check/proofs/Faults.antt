-- The first condition that fails, by its number.
use Rattle.std.proofs.Common.{◌≡◌, ℕ, ◌+◌, ◌<◌, ◌≤◌, ⊎_elim, List, length, sym, subst, arith}
use Rattle.std.specs.List.{AllByRecursion}
use Rattle.std.proofs.lemmas.Bool.{cases_lt}
use Rattle.uca_values.specs.Content.{Entry}
use Rattle.uca_check.specs.declared.IllFormed.{IllFormed}
use Rattle.uca_check.specs.WellFormed.{Meets, IsFirstWithout, IsFirstFailure}

-- the conditions of lower numbers are met
abbrev pub MeetsBelow : (ℕ → ℕ) → List Entry → ℕ → Type 0
MeetsBelow class rows wf = (n : ℕ) → 1 ≤ n → n < wf → AllByRecursion (Meets class rows n) rows

pub meets_below_1 : (class : ℕ → ℕ) (rows : List Entry) → MeetsBelow class rows 1
meets_below_1 class rows n low high = absurd (omega arith)

pub meets_below_next : (class : ℕ → ℕ) (rows : List Entry) (wf next : ℕ) → next ≡ wf + 1 → MeetsBelow class rows wf → AllByRecursion (Meets class rows wf) rows → MeetsBelow class rows next
meets_below_next class rows wf next is lower here n low high =
    ⊎_elim
    (λ (less : n < wf). lower n low less)
    (λ (not : wf ≤ n). let same : wf ≡ n = omega arith in subst (λ k. AllByRecursion (Meets class rows k) rows) same here)
    (cases_lt n wf)

pub first_failure : (class : ℕ → ℕ) (rows : List Entry) (wf at : ℕ) (fault : IllFormed) → fault ≡ record { wf = wf; row = at + 1 } → (1 ≤ wf) × (wf ≤ 5) → MeetsBelow class rows wf → (at < length rows) × IsFirstWithout (Meets class rows wf) rows (at + 1) → IsFirstFailure class rows fault.wf fault.row
first_failure class rows wf at fault is number lower first =
    subst (λ (f : IllFormed). IsFirstFailure class rows f.wf f.row) (sym is) (record { number = number; lower = lower; first = first.1 })
