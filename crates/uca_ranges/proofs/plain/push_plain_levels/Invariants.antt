use Rattle.std.proofs.Common.{◌≡◌, ℕ, ◌-◌, ◌<◌, List, ◌++◌}
use Rattle.uca_order.specs.Levels.{levels_bytes}
use Rattle.uca_compact.specs.Forms.{AreLevels}
use Rattle.uca_ranges.specs.Ranges.{plain_levels}
use Rattle.uca_ranges.proofs.PlainKeys.{HasPlains}
use Rattle.uca_ranges.proofs.plain.push_plain_levels.Given as goal

abbrev pub invariant-loop-done : goal.invariant-loop-done
invariant-loop-done g l = (levels : List (List ℕ)) → AreLevels l.count levels → 0 < l.count → l.fn.bytes.items ≡ levels_bytes levels →
    HasPlains l.bytes.items l.done l.all (levels ++ plain_levels levels (l.all - l.count))

abbrev pub decreases-loop-done : goal.decreases-loop-done
decreases-loop-done g l = l.all - l.done
