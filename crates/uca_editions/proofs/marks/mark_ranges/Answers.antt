use Rattle.std.proofs.Common.{get_or}
use Rattle.std.proofs.lemmas.List.{get_or_default}
use Rattle.uca_values.specs.declared.CodePointRange.{CodePointRange}
use Rattle.uca_editions.specs.inside.Index.{HasMarks}
use Rattle.uca_editions.proofs.MarkLaws.{each_more}
use Rattle.uca_editions.proofs.marks.mark_ranges.Goals as goal

pub loop-range-preserved : goal.loop-range-preserved
loop-range-preserved c =
    let ranges = c.args.ranges.now in
    let i = c.loop-range.range-index in
    let zero : CodePointRange = record { first = 0; last = 0 } in
    let range = get_or ranges i zero in
    record {
      kept = λ point marked. c.mark_range.ensures.kept point (c.loop-range.invariant.kept point marked);
      marked =
          each_more HasMarks ranges i range c.loop-range.words c.mark_range.new.words c.loop-range-test.true (get_or_default ranges i zero range c.loop-range-test.true)
          (λ r marks point inside. c.mark_range.ensures.kept point (marks point inside)) c.mark_range.ensures.marked c.loop-range.invariant.marked;
    }
