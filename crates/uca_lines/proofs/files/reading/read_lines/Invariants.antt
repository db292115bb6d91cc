use Rattle.std.proofs.Common.{◌≡◌, ◌-◌, ◌≤◌, ◌+◌}
use Rattle.uca_lines.specs.LineReader.{left_of}
use Rattle.uca_lines.proofs.FileStepLemmas.{ReachesKnown, SaysSoMany}
use Rattle.uca_lines.proofs.files.reading.read_lines.Given as goal

abbrev pub invariant-loop-line : goal.invariant-loop-line
invariant-loop-line g l = record {
  reaches : ReachesKnown g.T.LineParser.form g.T.LineParser.says l.fn.source.remaining (left_of l.lines l.source) (l.lines.number + 1) l.taker;
  longest : l.lines.longest ≡ g.T.LineParser.form.longest;
  said : SaysSoMany g.T.LineParser.form g.T.LineParser.says l.lines.number l.taker;
  failed : l.source.failed ≡ l.fn.source.failed;
  within : l.lines.number ≤ 1000000;
}

abbrev pub decreases-loop-line : goal.decreases-loop-line
decreases-loop-line g l = 1000000 - l.lines.number
