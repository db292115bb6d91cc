-- No LF is among the bytes that were looked at. Each turn reads a byte at least, and a line has no more than 2^30.
use Rattle.std.proofs.Common.{◌≡◌, ◌-◌, ◌≤◌, false, length, take}
use Rattle.std.specs.Io.KnownBytes.{Keeps}
use Rattle.uca_lines.specs.Lines.{is_lf, Lacks}
use Rattle.uca_rekey.specs.inside.LinesInPlace.{left_of}
use Rattle.uca_rekey.proofs.lines.KeyLines.find.Given as goal

abbrev pub invariant-loop-len : goal.invariant-loop-len
invariant-loop-len g l = record {
  kept : Keeps (left_of l.fn.self l.fn.source) (left_of l.self l.source);
  within : l.seen ≤ length l.self.pending;
  lacks : Lacks is_lf (take l.seen l.self.pending);
  at_end : l.self.at_end ≡ false;
  failed : l.source.failed ≡ l.fn.source.failed;
}

abbrev pub decreases-loop-len : goal.decreases-loop-len
decreases-loop-len g l = 1073741825 - length l.self.pending
