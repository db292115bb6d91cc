-- The source has lost the bytes that were read. Each turn reads a byte at least, or ends.
use Rattle.std.proofs.Common.{◌≡◌, ◌≤◌, ◌-◌, length}
use Rattle.std.specs.Io.KnownBytes.{Consumes}
use Rattle.uca_run_parts.proofs.rule_file.read_bytes.Given as goal

abbrev pub invariant-loop-chunk : goal.invariant-loop-chunk
invariant-loop-chunk g l = record {
  loses : Consumes l.fn.source.remaining l.source.remaining l.bytes.items;
  few : length l.bytes.items ≤ 1048577;
  failed : l.source.failed ≡ l.fn.source.failed;
}

abbrev pub decreases-loop-chunk : goal.decreases-loop-chunk
decreases-loop-chunk g l = 1048577 - length l.bytes.items
