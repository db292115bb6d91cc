use Rattle.std.proofs.Common.{take, ◌++◌}
use Rattle.uca_check.specs.WellFormed.{elements_of}
use Rattle.uca_check.specs.Searches.{AreGreatestWeights}
use Rattle.uca_check.proofs.wf2.greatest_weights.Given as goal

abbrev pub invariant-loop-element : goal.invariant-loop-element
invariant-loop-element g l = AreGreatestWeights (elements_of (take l.row-index l.rows) ++ take l.element-index l.element-items) l.greatest

abbrev pub invariant-loop-row : goal.invariant-loop-row
invariant-loop-row g l = AreGreatestWeights (elements_of (take l.row-index l.rows)) l.greatest
