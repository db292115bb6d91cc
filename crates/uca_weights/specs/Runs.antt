-- Maps of weights by runs of consecutive weights with consecutive images.
use Rattle.std.specs.Prelude.{◌≡◌, ◌⊎◌, ℕ, zero, suc, ◌+◌, ◌-◌, ◌<◌, ◌≤◌, List, [], ◌∷◌, ◌&&◌, Option, Some, None, ⊤, length, nat_le, nat_lt, nat_eq, if◌then◌else◌}
use Rattle.uca_weights.specs.declared.Level.{Level}
use Rattle.uca_weights.specs.declared.Level.TheVariants.{One, Two, Three}
use Rattle.uca_weights.specs.declared.maps.Run.{Run}
use Rattle.uca_weights.specs.declared.maps.MapFault.{MapFault}
use Rattle.uca_weights.specs.declared.maps.MapFaultKind.{MapFaultKind}
use Rattle.uca_weights.specs.declared.maps.MapFaultKind.TheVariants as kinds
use Rattle.std.specs.List.{AllByRecursion}
use Rattle.uca_weights.specs.Maps.{WeightImages, Sends, IsRisingMap, KeepsWeights}

-- ---- The map of some runs

-- the image of a weight of a run is the weight at its position on the other side
abbrev pub run_image : List Run → WeightImages
run_image [] w = None
run_image (r ∷ runs) w = if nat_le r.from w && nat_lt w (r.from + r.count) then Some (r.to + (w - r.from)) else run_image runs w

-- 0 stays, and so does at level 1 each weight from 8000 up
abbrev pub weight_image : Level → List Run → WeightImages
weight_image One runs w = if nat_eq w 0 then Some 0 else if nat_le 0x8000 w then Some w else run_image runs w
weight_image Two runs w = if nat_eq w 0 then Some 0 else run_image runs w
weight_image Three runs w = if nat_eq w 0 then Some 0 else run_image runs w

-- ---- Runs that make a map

-- above the weights that the runs of a level map
abbrev pub weights_end : Level → ℕ
weights_end One = 0x8000
weights_end Two = 0x1_0000
weights_end Three = 0x1_0000

-- both sides of a run are weights of the level other than 0
pub record IsInRange (level : Level) (r : Run) : Type 0 where
  pub from_zero : 0 < r.from
  pub to_zero : 0 < r.to
  pub from_end : r.from + r.count ≤ weights_end level
  pub to_end : r.to + r.count ≤ weights_end level

-- the run lies above the run before it, if there is one, on both sides
abbrev pub IsAbove : Option Run → Run → Type 0
IsAbove None r = ⊤
IsAbove (Some s) r = (s.from + s.count ≤ r.from) × (s.to + s.count ≤ r.to)

-- what a run keeps after the run before it
pub record IsProperRun (level : Level) (previous : Option Run) (r : Run) : Type 0 where
  pub some : 0 < r.count
  pub range : IsInRange level r
  pub above : IsAbove previous r

abbrev pub AreRising : Level → Option Run → List Run → Type 0
AreRising level previous [] = ⊤
AreRising level previous (r ∷ runs) = IsProperRun level previous r × AreRising level (Some r) runs

-- the weight of implicit pairs at levels 2 and 3 stays
abbrev pub KeepsPairWeight : Level → List Run → Type 0
KeepsPairWeight One runs = ⊤
KeepsPairWeight Two runs = Sends (run_image runs) 0x20 0x20
KeepsPairWeight Three runs = Sends (run_image runs) 2 2

pub record AreProperRuns (level : Level) (runs : List Run) : Type 0 where
  pub rise : AreRising level None runs
  pub fixed : KeepsPairWeight level runs

-- ---- Why runs make none

-- the first cause that a run has after the run before it: it is empty, is out of range, or is not above that run
abbrev pub RefusesRun : Level → Option Run → Run → MapFaultKind → Type 0
RefusesRun level previous r kinds.Empty = r.count ≡ 0
RefusesRun level previous r kinds.OutOfRange = (0 < r.count) × (IsInRange level r → ⊥)
RefusesRun level previous r kinds.NotRising = (0 < r.count) × IsInRange level r × (IsAbove previous r → ⊥)
RefusesRun level previous r kinds.Fixed = ⊥

-- the run with this index, from 0, is the first that is rejected
abbrev pub IsFirstRefused : Level → Option Run → List Run → ℕ → MapFaultKind → Type 0
IsFirstRefused level previous [] index kind = ⊥
IsFirstRefused level previous (r ∷ runs) zero kind = RefusesRun level previous r kind
IsFirstRefused level previous (r ∷ runs) (suc index) kind = IsProperRun level previous r × IsFirstRefused level (Some r) runs index kind

-- no run is rejected, and the weight of implicit weights does not stay
pub record LosesPairWeight (level : Level) (runs : List Run) (fault : MapFault) : Type 0 where
  pub kind : fault.kind ≡ kinds.Fixed
  pub run : fault.run ≡ length runs
  pub rise : AreRising level None runs
  pub lost : KeepsPairWeight level runs → ⊥

-- the first error of some runs
abbrev pub IsMapFault : Level → List Run → MapFault → Type 0
IsMapFault level runs fault = IsFirstRefused level None runs fault.run fault.kind ⊎ LosesPairWeight level runs fault

-- ---- Maps

-- a map: its level and its runs
pub record MapContent : Type 0 where
  pub level : Level
  pub runs : List Run

-- ---- Laws

-- Proper runs make a rising map.
abbrev pub ProperRunsRise : Type 0
ProperRunsRise = (level : Level) (runs : List Run) → AreProperRuns level runs → IsRisingMap level (weight_image level runs)

-- Runs with an error are not proper.
abbrev pub FaultyRunsAreNotProper : Type 0
FaultyRunsAreNotProper = (level : Level) (runs : List Run) (fault : MapFault) → IsMapFault level runs fault → ¬ (AreProperRuns level runs)

-- Where each run has the same weights on both sides, no weight moves.
abbrev pub RunsThatStayKeepWeights : Type 0
RunsThatStayKeepWeights = (level : Level) (runs : List Run) → AllByRecursion (λ r. r.from ≡ r.to) runs → KeepsWeights (weight_image level runs)
