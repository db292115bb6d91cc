use Rattle.std.proofs.Common.{◌≡◌, drop}
use Rattle.uca_check.specs.WellFormed.{elements_of}
use Rattle.uca_plans.specs.Lists.{all_inserted, members_of}
use Rattle.uca_tailor.proofs.numbers.lists.members.Given as goal

-- with the insertions that are left put in, the list so far is the level's
abbrev pub invariant-loop-insertion : goal.invariant-loop-insertion
invariant-loop-insertion g l =
    all_inserted l.level (drop l.insertion-index l.insertions) l.members.items ≡ members_of l.level (elements_of l.rows) l.insertions
