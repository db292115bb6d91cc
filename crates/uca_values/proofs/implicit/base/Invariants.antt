use Rattle.std.proofs.Common.{◌≡◌, drop}
use Rattle.uca_values.specs.Implicit.{base_of}
use Rattle.uca_values.proofs.implicit.base.Given as goal

abbrev pub invariant-loop-range : goal.invariant-loop-range
invariant-loop-range l = base_of (drop l.range-index l.ranges) l.lead l.least ≡ base_of l.ranges l.lead l.fn.point
