-- The runs in turn: what is known after some of them.
use Rattle.std.proofs.Common.{◌≡◌, ℕ, zero, suc, ◌+◌, ◌<◌, List, Option, Some, None, length, get_or, drop, sym, subst, arith, drop-cons}
use Rattle.uca_weights.specs.declared.Level.{Level}
use Rattle.uca_weights.specs.declared.maps.Run.{Run}
use Rattle.uca_weights.specs.declared.maps.MapFaultKind.{MapFaultKind}
use Rattle.uca_weights.specs.Runs.{AreRising, IsProperRun, RefusesRun, IsFirstRefused}

-- the runs from a position on, after the run before it, decide about all
pub record Decides (level : Level) (runs : List Run) (i : ℕ) (previous : Option Run) : Type 0 where
  pub rising : AreRising level previous (drop i runs) → AreRising level None runs
  pub refused : (k : ℕ) (kind : MapFaultKind) → IsFirstRefused level previous (drop i runs) k kind → IsFirstRefused level None runs (i + k) kind

-- after a proper run
pub decides_next : (level : Level) (runs : List Run) (i : ℕ) (previous : Option Run) (d : Run)
    → i < length runs → Decides level runs i previous → IsProperRun level previous (get_or runs i d) → Decides level runs (i + 1) (Some (get_or runs i d))
decides_next level runs i previous d l known proper =
    let whole = drop-cons runs i d l in
    let next : suc i ≡ i + 1 = omega arith in
    let at : Decides level runs (suc i) (Some (get_or runs i d)) =
    record {
      rising = λ h. known.rising (subst (AreRising level previous) (sym whole) (proper, h));
      refused = λ k kind h.
          subst (λ (n : ℕ). IsFirstRefused level None runs n kind) (omega arith)
          (known.refused (suc k) kind (subst (λ (rs : List Run). IsFirstRefused level previous rs (suc k) kind) (sym whole) (proper, h)));
    } in
    subst (λ (n : ℕ). Decides level runs n (Some (get_or runs i d))) next at

-- at a run that is rejected
pub decides_fault : (level : Level) (runs : List Run) (i : ℕ) (previous : Option Run) (d : Run) (kind : MapFaultKind)
    → i < length runs → Decides level runs i previous → RefusesRun level previous (get_or runs i d) kind → IsFirstRefused level None runs i kind
decides_fault level runs i previous d kind l known refused =
    subst (λ (n : ℕ). IsFirstRefused level None runs n kind) (omega arith)
    (known.refused zero kind (subst (λ (rs : List Run). IsFirstRefused level previous rs zero kind) (sym (drop-cons runs i d l)) refused))
