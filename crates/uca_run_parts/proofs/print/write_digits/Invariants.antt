use Rattle.std.proofs.Common.{◌≡◌}
use Rattle.std.specs.Slice.Iter.{chunks_rest, chunks_size}
use Rattle.uca_run_parts.proofs.PrintLemmas.{HasDigitsUpTo}
use Rattle.uca_run_parts.proofs.print.write_digits.Given as goal

abbrev pub invariant-loop-part : goal.invariant-loop-part
invariant-loop-part g l = record {
  size : chunks_size l.part-iterator ≡ 256;
  up_to : HasDigitsUpTo l.key (chunks_rest l.part-iterator) l.initial.out l.out l.initial.buffer l.buffer;
}
