use Rattle.std.proofs.Common.{◌≡◌}
use Rattle.std.specs.Slice.Iter.{chunks_rest, chunks_size}
use Rattle.uca_run_parts.proofs.PrintLemmas.{IsWrittenUpTo}
use Rattle.uca_run_parts.proofs.print.write_groups.Given as goal

abbrev pub invariant-loop-part : goal.invariant-loop-part
invariant-loop-part g l = record {
  size : chunks_size l.part-iterator ≡ 256;
  up_to : IsWrittenUpTo l.key (chunks_rest l.part-iterator) l.begin l.initial.out l.out l.initial.buffer l.buffer;
}
