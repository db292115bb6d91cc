use Rattle.std.specs.List.{AllWithin}
use Rattle.uca_values.specs.Content.{properties_of}
use Rattle.uca_check.specs.WellFormed.{MeetsWF5}
use Rattle.uca_check.proofs.wf5.first_failing.Given as goal

abbrev pub invariant-loop-at : goal.invariant-loop-at
invariant-loop-at g l = AllWithin (MeetsWF5 (properties_of l.«data»).class l.rows) l.rows 0 l.at
