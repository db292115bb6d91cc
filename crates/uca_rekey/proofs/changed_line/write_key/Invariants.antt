-- The digits of the bytes so far were written.
use Rattle.std.proofs.Common.{◌≡◌, ◌≤◌, true, length, drop}
use Rattle.std.specs.List.{flat_map}
use Rattle.uca_run_parts.specs.Print.{byte_digits}
use Rattle.uca_rekey.specs.ChangedLines.{with_key}
use Rattle.uca_rekey.proofs.LineKeys.{written_from}
use Rattle.uca_rekey.proofs.changed_line.write_key.Given as goal

abbrev pub invariant-loop-byte : goal.invariant-loop-byte
invariant-loop-byte l = record {
  within : l.at ≤ length l.line;
  written : with_key true l.initial.line l.key ≡ written_from l.line l.at (flat_map byte_digits (drop l.byte-index l.key));
}
