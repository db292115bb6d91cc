-- There are no rows and no keys.
use Rattle.std.proofs.Common.{None, ap₂}
use Rattle.uca_table.proofs.KeepingLaws.{with_rows, keeps_none}
use Rattle.uca_table.proofs.lines.TableLines.new.Goals as goal

pub invariant_of-result : goal.invariant_of-result
invariant_of-result g c = keeps_none _ _ _ (ap₂ (with_rows None None) c.new.ensures.items c.new-2.ensures) c.new-3.ensures

pub returns : goal.returns
returns g c = ap₂ (with_rows None None) c.new.ensures.items c.new-2.ensures
