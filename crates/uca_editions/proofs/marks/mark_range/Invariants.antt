-- What was marked is still marked, and so are the code points of the range so far.
use Rattle.std.proofs.Common.{ℕ, ◌<◌, ◌≤◌}
use Rattle.uca_editions.specs.inside.Index.{IsMarked, KeepsMarks}
use Rattle.uca_editions.proofs.marks.mark_range.Given as goal

abbrev pub invariant-loop-code : goal.invariant-loop-code
invariant-loop-code l = record {
  kept : KeepsMarks l.fn.words l.words;
  marked : (point : ℕ) → l.fn.range.first ≤ point → point < l.code → IsMarked l.words point;
}
