-- What was marked is still marked, and so are the first code points of the texts so far.
use Rattle.std.proofs.Common.{take}
use Rattle.std.specs.List.{AllByRecursion}
use Rattle.uca_editions.specs.inside.Index.{IsMarked, KeepsMarks, first_of}
use Rattle.uca_editions.proofs.marks.mark_texts.Given as goal

abbrev pub invariant-loop-text : goal.invariant-loop-text
invariant-loop-text g l = record {
  kept : KeepsMarks l.fn.words l.words;
  marked : AllByRecursion (λ text. IsMarked l.words (first_of text)) (take l.text-index l.texts);
}
