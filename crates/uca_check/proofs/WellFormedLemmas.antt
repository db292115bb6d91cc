-- A well-formed table has no row that fails a condition.
use Rattle.std.proofs.Common.{ℕ, zero, suc, ◌≤◌, List, subst, arith}
use Rattle.std.specs.List.{AllByRecursion}
pub use Rattle.uca_weights.proofs.Lists.{inside}
use Rattle.uca_values.specs.Content.{Entry}
use Rattle.uca_check.specs.WellFormed.{IsWellFormed, IsFirstWithout, IsFirstFailure, Meets as MeetsForm}

-- where each row has a property no row is the first without it
pub no_row_without : (P : Entry → Type 0) (rows : List Entry) (number : ℕ) → AllByRecursion P rows → IsFirstWithout P rows number → ⊥
no_row_without P rows number all first = first.without (inside P first.before first.entry first.after (subst (AllByRecursion P) first.split all))

-- a well-formed table has no row that fails
each_meets : (class : ℕ → ℕ) (rows : List Entry) (wf : ℕ) → 1 ≤ wf → wf ≤ 5 → IsWellFormed class rows → AllByRecursion (MeetsForm class rows wf) rows
each_meets class rows zero low high formed = absurd (omega arith)
each_meets class rows (suc zero) low high formed = formed.wf1
each_meets class rows (suc (suc zero)) low high formed = formed.wf2
each_meets class rows (suc (suc (suc zero))) low high formed = formed.wf3
each_meets class rows (suc (suc (suc (suc zero)))) low high formed = formed.wf4
each_meets class rows (suc (suc (suc (suc (suc zero))))) low high formed = formed.wf5
each_meets class rows (suc (suc (suc (suc (suc (suc n)))))) low high formed = absurd (omega arith)

pub no_form_fails : (class : ℕ → ℕ) (rows : List Entry) (wf row : ℕ) → IsWellFormed class rows → IsFirstFailure class rows wf row → ⊥
no_form_fails class rows wf row formed fails =
    no_row_without (MeetsForm class rows wf) rows row (each_meets class rows wf fails.number.0 fails.number.1 formed) fails.first
