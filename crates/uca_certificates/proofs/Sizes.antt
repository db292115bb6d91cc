-- Runs that make a map are few, and their numbers have four digits.
use Rattle.std.proofs.Common.{◌+◌, ◌≤◌, List, [], ◌∷◌, length, Option, Some, None, lit≤, arith}
use Rattle.std.specs.List.{AllByRecursion}
use Rattle.uca_weights.specs.declared.Level.{Level}
use Rattle.uca_weights.specs.declared.maps.Run.{Run}
use Rattle.uca_weights.specs.Runs.{weights_end, IsProperRun, AreRising, AreProperRuns}
use Rattle.uca_weights.proofs.RunPlaces.{ends_fit}
use Rattle.uca_certificates.specs.Texts.{of_level, IsRunLine}

-- each run after a run takes at least one weight
few_after : (level : Level) (s : Run) (runs : List Run) → s.from + s.count ≤ weights_end level → AreRising level (Some s) runs
    → length runs + (s.from + s.count) ≤ weights_end level
few_after level s [] end h = omega arith
few_after level s (r ∷ runs) end h =
    omega (arith, few_after level r runs h.0.range.from_end h.1, h.0.above.0, h.0.some)

-- so a level has at most 65,535
pub few_proper : (level : Level) (runs : List Run) → AreProperRuns level runs → length runs ≤ 0xFFFF
few_proper level runs h = few level runs h.rise
  where
    few : (level : Level) (runs : List Run) → AreRising level None runs → length runs ≤ 0xFFFF
    few level [] h = lit≤ tt
    few level (r ∷ runs) h =
        omega (arith, few_after level r runs h.0.range.from_end h.1, h.0.range.from_zero, h.0.some, ends_fit level)

-- a proper run has numbers of 16 bits
run_fits : (level : Level) (previous : Option Run) (r : Run) → IsProperRun level previous r → IsRunLine (record { level = level; run = r })
run_fits level previous r h = record {
  from = omega (arith, h.range.from_end, h.some, ends_fit level);
  to = omega (arith, h.range.to_end, h.some, ends_fit level);
  count = omega (arith, h.range.from_end, h.range.from_zero, ends_fit level);
}

-- and so has each of some
rising_fit : (level : Level) (previous : Option Run) (runs : List Run) → AreRising level previous runs → AllByRecursion IsRunLine (of_level level runs)
rising_fit level previous [] h = tt
rising_fit level previous (r ∷ runs) h = (run_fits level previous r h.0, rising_fit level (Some r) runs h.1)

-- in a map too
pub proper_fit : (level : Level) (runs : List Run) → AreProperRuns level runs → AllByRecursion IsRunLine (of_level level runs)
proper_fit level runs h = rising_fit level None runs h.rise
