-- How numbers are worked out from the first member to the last. What they are, `number` says alone: no law rests on this
-- file, only the loop of the planner does.
use Rattle.std.specs.Prelude.{ℕ, ◌+◌, ◌-◌, List, [], ◌∷◌, length, min, max}
use Rattle.uca_plans.specs.declared.drafts.DraftWeight.{DraftWeight}
use Rattle.uca_plans.specs.declared.drafts.DraftWeight.TheVariants.{Base, New}

-- one position further up, or at the weight of a base member where that is higher
abbrev pub one_further : DraftWeight → ℕ → ℕ
one_further (Base weight) place = max weight (place + 1)
one_further (New _) place = place + 1

-- the numbers of members that follow a position
abbrev pub numbers_from : ℕ → ℕ → List DraftWeight → List ℕ
numbers_from top place [] = []
numbers_from top place (m ∷ after) = min (one_further m place) (top - length after) ∷ numbers_from top (one_further m place) after
