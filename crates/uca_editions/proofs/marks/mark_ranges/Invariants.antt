-- What was marked is still marked, and so are the code points of the ranges so far.
use Rattle.std.proofs.Common.{take}
use Rattle.std.specs.List.{AllByRecursion}
use Rattle.uca_editions.specs.inside.Index.{HasMarks, KeepsMarks}
use Rattle.uca_editions.proofs.marks.mark_ranges.Given as goal

abbrev pub invariant-loop-range : goal.invariant-loop-range
invariant-loop-range l = record {
  kept : KeepsMarks l.fn.words l.words;
  marked : AllByRecursion (HasMarks l.words) (take l.range-index l.ranges);
}
