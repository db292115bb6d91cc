use Rattle.std.proofs.Common.{take}
use Rattle.uca_changes.specs.Points.{IsSamePair}
use Rattle.uca_editions.specs.inside.Borders.{IfOutside, FindsLeast}
use Rattle.uca_editions.proofs.points.least_other_pair.Given as goal

abbrev pub invariant-loop-point : goal.invariant-loop-point
invariant-loop-point g l = FindsLeast (IfOutside l.changes.ranges (IsSamePair l.old.ranges l.new.ranges)) (take l.point-index l.points) l.least
