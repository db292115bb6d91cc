use Rattle.std.proofs.Common.{◌≡◌, drop}
use Rattle.uca_values.specs.Implicit.{lead_of}
use Rattle.uca_values.proofs.implicit.lead.Given as goal

abbrev pub invariant-loop-range : goal.invariant-loop-range
invariant-loop-range l = lead_of (drop l.range-index l.ranges) l.point ≡ lead_of l.ranges l.point
