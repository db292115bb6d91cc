use Rattle.std.proofs.Common.{◌+◌, ◌-◌, ◌≡◌, ◌≤◌, ◌<◌, ℕ}
use Rattle.uca_comparison.specs.declared.walk.Step.TheVariants.{Either}
use Rattle.uca_comparison.specs.Walks.{Allows}
use Rattle.uca_comparison.proofs.walk.LevelsSoFar.step.Given as goal

-- the step is one that all levels before allow
abbrev pub invariant-loop-level : goal.invariant-loop-level
invariant-loop-level g l =
    (l.self ≡ l.fn.self) × (l.self.first ≤ l.level) × (l.level ≡ l.self.first → l.step ≡ Either)
    × ((level : ℕ) → l.self.first ≤ level → level < l.level → Allows l.fn.weighting l.step level l.left l.right)

abbrev pub decreases-loop-level : goal.decreases-loop-level
decreases-loop-level g l = l.self.through + 1 - l.level
