-- The weights so far are before the position.
use Rattle.std.proofs.Common.{◌-◌, length}
use Rattle.uca_compact.specs.inside.StoredEnds.{IsSplitTo}
use Rattle.uca_compact.proofs.stored.split_level.Given as goal

abbrev pub invariant-loop-at : goal.invariant-loop-at
invariant-loop-at l = IsSplitTo l.bytes l.at

abbrev pub decreases-loop-at : goal.decreases-loop-at
decreases-loop-at l = length l.bytes - l.at
