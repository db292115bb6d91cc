-- No tab was passed.
use Rattle.std.proofs.Common.{◌≡◌, length}
use Rattle.uca_rekey.specs.ChangedLines.{from_tab}
use Rattle.uca_rekey.proofs.changed_line.after_key.Given as goal

abbrev pub invariant-loop-rest : goal.invariant-loop-rest
invariant-loop-rest l = from_tab l.line ≡ from_tab l.rest

abbrev pub decreases-loop-rest : goal.decreases-loop-rest
decreases-loop-rest l = length l.rest
