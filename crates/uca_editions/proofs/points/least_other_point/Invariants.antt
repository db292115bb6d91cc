use Rattle.std.proofs.Common.{take}
use Rattle.uca_values.specs.Content.{properties_of}
use Rattle.uca_changes.specs.Points.{IsSamePoint}
use Rattle.uca_editions.specs.inside.Borders.{IfOutside, FindsLeast}
use Rattle.uca_editions.proofs.points.least_other_point.Given as goal

abbrev pub invariant-loop-point : goal.invariant-loop-point
invariant-loop-point g l = FindsLeast (IfOutside l.changes.ranges (IsSamePoint (properties_of l.old) (properties_of l.new))) (take l.point-index l.points) l.least
