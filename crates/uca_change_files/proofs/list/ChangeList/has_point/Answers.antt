-- The ranges of a list rise, so one of them is looked for by halves.
use Rattle.std.proofs.Common.{sym, subst}
use Rattle.uca_values.specs.Ranges.{AreRising}
use Rattle.uca_change_files.proofs.Orders.{rising_from}
use Rattle.uca_change_files.proofs.list.ChangeList.has_point.Goals as goal

pub is_held-requires : goal.is_held-requires
is_held-requires g c = subst AreRising (sym c.deref.ensures.value) (rising_from c.self.inside.ranges.items c.self.invariant.ranges c.self.invariant.ranges_rise)
