-- Another weight decides, or else the lengths do.
use Rattle.std.proofs.Common.{ap₂, ◌∙◌, inl, inr}
use Rattle.std.specs.Ordering.{nat_cmp}
use Rattle.uca_compact.proofs.LevelsPut.{other_decides, lengths_decide}
use Rattle.uca_compact.proofs.later_level.compare_level.Goals as goal
use Rattle.uca_compact.proofs.later_level.compare_level.Goals.{else-run-len-via-then-run-len+else-run-count, else-run-len-via-else-run-len}

pub returns-then-run-count-clause-order : goal.returns-then-run-count-clause-order
returns-then-run-count-clause-order c =
    c.cmp-order.ensures
    ∙ ap₂ nat_cmp c.weight_at.ensures.is c.from-common.ensures
    ∙ other_decides c.args.level.now c.args.weight c.args.count c.first_run-run.result c.requires c.first_run-run.ensures c.if-run-len.true c.if-run-count.true

pub returns-else-run-len-clause-order : goal.returns-else-run-len-clause-order
returns-else-run-len-clause-order c =
    c.cmp-order-else-run-len.ensures
    ∙ lengths_decide c.args.level.now c.args.weight c.args.count c.first_run-run.result c.requires c.first_run-run.ensures
    (elim c.else-run-len.branch [
      | else-run-len-via-then-run-len+else-run-count w ↦ inr w.if-run-count.false
      | else-run-len-via-else-run-len w ↦ inl w.if-run-len.false
    ])
