-- The slot of a weight in a level's list.
use Rattle.std.specs.Prelude.{◌≡◌, ℕ, ◌<◌, List, length}
use Rattle.uca_plans.specs.declared.drafts.DraftWeight.{DraftWeight}
use Rattle.uca_plans.specs.Lists.{before_weight}
use Rattle.uca_plans.specs.ListLaws.{IsAmong}

-- the slot, from 0, is the first one of the weight
pub record IsSlotOf (weight : DraftWeight) (members : List DraftWeight) (slot : ℕ) : Type 0 where
  pub there : IsAmong members weight
  pub within : slot < length members
  pub before : slot ≡ length (before_weight weight members)
