use Rattle.std.proofs.Common.{◌+◌, ◌*◌, false, arith}
use Rattle.uca_ranges.specs.inside.WeightCounts.{weights_counted}
use Rattle.uca_ranges.proofs.PlainCounts.{count_step, count_ends}
use Rattle.uca_ranges.proofs.plain.weight_count.Goals as goal

pub loop-at-preserved : goal.loop-at-preserved
loop-at-preserved c = (
  omega (arith, c.loop-at-test.true),
  omega (arith, c.loop-at.invariant.1, c.counted-count.ensures.few),
  count_step c.args.bytes.now c.args.leaves_out c.loop-at.after_lead c.leads-after_lead.result c.loop-at.at c.loop-at.left
      (256 * c.from.result + c.from-in-loop-at.result) c.counted-count.result c.levels_left-left.result c.loop-at.count
      (weights_counted c.args.leaves_out false c.args.level c.args.bytes.now) c.loop-at-test.true (omega (arith, c.from.ensures, c.from-in-loop-at.ensures))
      c.counted-count.ensures.is c.leads-after_lead.ensures c.levels_left-left.ensures c.loop-at.invariant.2,
)

pub returns-clause-count : goal.returns-clause-count
returns-clause-count c =
    count_ends c.args.bytes.now c.args.leaves_out c.loop-at.after_lead c.loop-at.at c.loop-at.left c.loop-at.count
    (weights_counted c.args.leaves_out false c.args.level c.args.bytes.now) (omega (arith, c.loop-at-test.false)) c.loop-at.invariant.2
