-- The code points so far affect nothing.
use Rattle.std.proofs.Common.{take}
use Rattle.uca_editions.specs.inside.Index.{IsFree}
use Rattle.uca_editions.proofs.index.ChangeIndexAffects.affects.Given as goal

abbrev pub invariant-loop-at : goal.invariant-loop-at
invariant-loop-at g l = IsFree l.self l.points (take l.at l.points)
