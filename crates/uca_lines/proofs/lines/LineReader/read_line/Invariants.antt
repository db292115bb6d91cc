-- What was read of the line, and what waits after it. Each turn moves a byte at least, and a line has no more than
-- `longest`.
use Rattle.std.proofs.Common.{◌≡◌, ◌<◌, ◌≤◌, ◌-◌, length, vec_capacity}
use Rattle.std.specs.Io.KnownBytes.{Consumes}
use Rattle.uca_lines.specs.Lines.{is_lf, Lacks}
use Rattle.uca_lines.specs.LineReader.{left_of}
use Rattle.uca_lines.proofs.lines.LineReader.read_line.Given as goal

abbrev pub invariant-loop-fault : goal.invariant-loop-fault
invariant-loop-fault g l = record {
  bytes : Consumes (left_of l.initial.self l.initial.source) (left_of l.self l.source) l.line.items;
  no_lf : Lacks is_lf l.line.items;
  fits : length l.line.items ≤ l.self.longest;
  some : 0 < length l.self.pending;
  capacity : vec_capacity l.initial.line ≤ vec_capacity l.line;
  number : l.self.number ≡ l.initial.self.number;
  longest : l.self.longest ≡ l.initial.self.longest;
  failed : l.source.failed ≡ l.initial.source.failed;
}

abbrev pub decreases-loop-fault : goal.decreases-loop-fault
decreases-loop-fault g l = l.self.longest - length l.line.items
