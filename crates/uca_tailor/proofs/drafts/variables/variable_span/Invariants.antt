use Rattle.std.proofs.Common.{take, ◌++◌}
use Rattle.uca_check.specs.WellFormed.{elements_of}
use Rattle.uca_tailor.specs.inside.Variables.{AreBounds}
use Rattle.uca_tailor.proofs.drafts.variables.variable_span.Given as goal

-- the bounds are those of the elements so far
abbrev pub invariant-loop-element : goal.invariant-loop-element
invariant-loop-element g l = AreBounds l.span (elements_of (take l.row-index l.rows) ++ take l.element-index l.element-items)

abbrev pub invariant-loop-row : goal.invariant-loop-row
invariant-loop-row g l = AreBounds l.span (elements_of (take l.row-index l.rows))
