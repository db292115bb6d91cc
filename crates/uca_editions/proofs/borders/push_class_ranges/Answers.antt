use Rattle.uca_values.specs.declared.ClassRange.{ClassRange}
use Rattle.uca_editions.proofs.BorderLists.{borders_further, borders_whole}
use Rattle.uca_editions.proofs.borders.push_class_ranges.Goals as goal

pub loop-range-preserved : goal.loop-range-preserved
loop-range-preserved g c =
    borders_further (λ (r : ClassRange). r.first) (λ r. r.last) c.args.ranges.now c.loop-range.range-index _ _ _ _ c.loop-range-test.true
    c.loop-range.invariant c.in_ok-push_border.ensures.kept c.in_ok-push_border.ensures.first c.in_ok-push_border.ensures.after

pub returns : goal.returns
returns g c =
    borders_whole (λ (r : ClassRange). r.first) (λ r. r.last) c.args.ranges.now c.loop-range.range-index _ _ c.loop-range-test.false c.loop-range.invariant
