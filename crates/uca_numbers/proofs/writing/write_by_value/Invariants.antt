use Rattle.uca_numbers.proofs.Written.{IsWritten}
use Rattle.uca_numbers.proofs.writing.write_by_value.Given as goal

abbrev pub invariant-loop-place : goal.invariant-loop-place
invariant-loop-place g l = IsWritten l.points l.made.items l.start l.place
