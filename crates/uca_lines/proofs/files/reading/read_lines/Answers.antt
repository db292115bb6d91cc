use Rattle.std.proofs.Common.{◌+◌, arith, ◌∙◌}
use Rattle.uca_lines.specs.LineReader.{left_of}
use Rattle.uca_lines.proofs.FileStepLemmas.{reaches_next, says_next, failed_as_before, reads_all, refuses_line}
use Rattle.uca_lines.proofs.files.reading.read_lines.Goals as goal

-- one more line is taken
pub loop-line-preserved : goal.loop-line-preserved
loop-line-preserved g c =
    let before = c.loop-line.invariant in
    let step = c.in-Ok-true.ensures in
    let taken = rw c.in-Ok-true.field-0-test at step.taken in
    let number = rw c.in-Ok-true.field-0-test at step.number in
    let form = g.T.LineParser.form in
    let says = g.T.LineParser.says in
    let old = left_of c.loop-line.lines c.loop-line.source in
    let new = left_of c.take_line.new.lines c.take_line.new.source in
    record {
      reaches = rw number.1 (reaches_next form says c.args.source.now.remaining old new (c.loop-line.lines.number + 1) c.loop-line.taker
          c.take_line.new.taker (omega (arith, number.0)) before.reaches taken);
      longest = c.take_line.ensures.longest ∙ before.longest;
      said = says_next form says old new c.loop-line.lines.number c.take_line.new.lines.number c.loop-line.taker c.take_line.new.taker before.said
          taken number.1;
      failed = failed_as_before c.loop-line.source.failed c.take_line.new.source.failed c.args.source.now.failed step.failed before.failed;
      within = omega (arith, number.0, number.1);
    }

-- all lines are taken
pub returns-in-Ok-false-clause-found : goal.returns-in-Ok-false-clause-found
returns-in-Ok-false-clause-found g c =
    let end = rw c.in-Ok-false.field-0-test at c.in-Ok-false.ensures.end in
    rw (c.number-count.ensures.value, end.1) (reads_all g.T.LineParser.form g.T.LineParser.says c.args.source.now.remaining
    (left_of c.loop-line.lines c.loop-line.source) c.loop-line.lines.number c.loop-line.taker c.loop-line.invariant.reaches end.0)

-- a line is rejected
pub returns-in-Err-clause-fault : goal.returns-in-Err-clause-fault
returns-in-Err-clause-fault g c =
    rw c.number-count.ensures.value (refuses_line g.T.LineParser.form g.T.LineParser.says g.T.LineParser.cause c.args.source.now.remaining
    (left_of c.loop-line.lines c.loop-line.source) c.take_line.new.source.remaining (c.loop-line.lines.number + 1) c.loop-line.taker c.in-Err.kind
    c.loop-line.invariant.reaches c.in-Err.ensures.fault)
