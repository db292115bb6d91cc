-- Tables of the numbers of a level's weights.
use Rattle.std.specs.Prelude.{◌≡◌, ℕ, ◌+◌, ◌≤◌, List, length, slice_index}
use Rattle.uca_plans.specs.declared.drafts.DraftWeight.{DraftWeight}
use Rattle.uca_plans.specs.declared.drafts.DraftWeight.TheVariants.{Base, New}
use Rattle.uca_weights.specs.declared.maps.Run.{Run}
use Rattle.uca_plans.specs.Lists.{number_in}

-- a table has the number of each base weight of a list, another that of the new weight of each relation, and 0 where there
-- is none
pub record AreTables (members : List DraftWeight) (numbers : List ℕ) (by_base by_new : List ℕ) : Type 0 where
  pub same : length numbers ≡ length members
  pub bases : length by_base ≡ 0x1_0000
  pub base : (w : ℕ) → slice_index by_base w ≡ number_in members numbers (Base w)
  pub new : (n : ℕ) → slice_index by_new n ≡ number_in members numbers (New n)

-- a run ends with a weight of 16 bits
abbrev pub EndsLow : Run → Type 0
EndsLow r = r.from + r.count ≤ 0x1_0000
