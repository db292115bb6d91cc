use Rattle.std.proofs.Common.{arith}
use Rattle.uca_tailor.proofs.NumberLemmas.MarkLaws.{marked_more, marked_same}
use Rattle.uca_tailor.proofs.numbers.lists.mark.Goals as goal
use Rattle.uca_tailor.proofs.numbers.lists.mark.Goals.{else-weight-gt0-via-then-weight-gt0+else-weight-top_weight, else-weight-gt0-via-else-weight-gt0}

pub returns-then-weight-top_weight-clause-each : goal.returns-then-weight-top_weight-clause-each
returns-then-weight-top_weight-clause-each c es marked =
    marked_more c.args.level es c.args.element c.args.marks.now c.from.result (cc) (omega arith) (omega arith) marked

pub returns-else-weight-gt0-clause-each : goal.returns-else-weight-gt0-clause-each
returns-else-weight-gt0-clause-each c es marked = marked_same c.args.level es c.args.element c.args.marks.now
    (λ numbered. elim c.else-weight-gt0.branch [
      | else-weight-gt0-via-then-weight-gt0+else-weight-top_weight w ↦ omega (arith, numbered.1)
      | else-weight-gt0-via-else-weight-gt0 w ↦ omega (arith, numbered.0)
    ]) marked
