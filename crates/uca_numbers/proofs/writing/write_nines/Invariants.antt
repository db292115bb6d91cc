use Rattle.std.proofs.Common.{◌≡◌, ◌++◌, replicate}
use Rattle.uca_numbers.proofs.writing.write_nines.Given as goal

abbrev pub invariant-loop : goal.invariant-loop
invariant-loop g l = l.made.items ≡ l.initial.made.items ++ replicate l.counter 0x39
