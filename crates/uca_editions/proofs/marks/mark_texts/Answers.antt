use Rattle.std.proofs.Common.{subst}
use Rattle.uca_editions.specs.inside.Index.{IsMarked, first_of}
use Rattle.uca_editions.proofs.MarkLaws.{each_more}
use Rattle.uca_editions.proofs.marks.mark_texts.Goals as goal

pub loop-text-preserved : goal.loop-text-preserved
loop-text-preserved g c = record {
  kept = λ point marked. c.mark.ensures.kept point (c.loop-text.invariant.kept point marked);
  marked =
      each_more (λ words text. IsMarked words (first_of text)) c.args.texts.now c.loop-text.text-index c.text-item.result c.loop-text.words c.mark.new.words
      c.loop-text-test.true c.text-item.is (λ text marked. c.mark.ensures.kept (first_of text) marked)
      (subst (IsMarked c.mark.new.words) c.first_point.ensures c.mark.ensures.marked) c.loop-text.invariant.marked;
}
