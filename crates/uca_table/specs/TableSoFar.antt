-- What the lines of a table file say so far.
use Rattle.std.specs.Prelude.{◌≡◌, ℕ, ◌≤◌, List, [], length, Option, None}
use Rattle.uca_weights.specs.declared.Weighting.{Weighting}
use Rattle.uca_values.specs.declared.ImplicitRange.{ImplicitRange}
use Rattle.uca_values.specs.Content.{Entry, AreImplicitRanges, AreRows}

pub record TableSoFar : Type 0 where
  pub version : Option (List ℕ)
  pub setting : Option Weighting
  pub ranges : List ImplicitRange
  pub rows : List Entry

-- Nothing comes before the version, and the ranges and rows are those of some table.
pub record IsTableSoFar (b : TableSoFar) : Type 0 where
  pub versioned : b.version ≡ None → (b.setting ≡ None) × (b.ranges ≡ []) × (b.rows ≡ [])
  pub ranges : AreImplicitRanges b.ranges
  pub few_ranges : length b.ranges ≤ 256
  pub rows : AreRows b.rows
