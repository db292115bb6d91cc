-- Row by row, the compacter keeps its settings.
use Rattle.std.proofs.Common.{◌≡◌}
use Rattle.test_keys.proofs.ranges.check_rows.Given as goal

abbrev pub invariant-loop-row : goal.invariant-loop-row
invariant-loop-row l = l.compacter.settings ≡ l.settings
