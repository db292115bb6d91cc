use Rattle.std.proofs.Common.{take, ◌++◌}
use Rattle.uca_check.specs.WellFormed.{elements_of}
use Rattle.uca_tailor.specs.inside.Marks.{AreMarked}
use Rattle.uca_tailor.proofs.numbers.lists.mark_rows.Given as goal

-- the weights of the elements so far are marked
abbrev pub invariant-loop-element : goal.invariant-loop-element
invariant-loop-element g l = AreMarked l.level (elements_of (take l.row-index l.rows) ++ take l.element-index l.element-items) l.marks

abbrev pub invariant-loop-row : goal.invariant-loop-row
invariant-loop-row g l = AreMarked l.level (elements_of (take l.row-index l.rows)) l.marks
