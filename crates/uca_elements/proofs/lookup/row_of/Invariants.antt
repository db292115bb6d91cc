use Rattle.std.proofs.Common.{take}
use Rattle.uca_elements.proofs.lookup.row_of.Given as goal

abbrev pub invariant-loop-point : goal.invariant-loop-point
invariant-loop-point g l = g.L.Lookup.stands_for l.lookup l.node (take l.point-index l.key)
