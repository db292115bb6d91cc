-- The marks of the texts are kept while those of the ranges are made.
use Rattle.std.proofs.Common.{ℕ, List, subst, ◌∙◌}
use Rattle.std.specs.List.{AllByRecursion}
use Rattle.uca_weights.proofs.Lists.{each_weaker}
use Rattle.uca_values.specs.declared.CodePointRange.{CodePointRange}
use Rattle.uca_editions.specs.inside.Index.{HasMarks, IsMarked, first_of}
use Rattle.uca_editions.proofs.marks.mark_changes.Goals as goal

pub returns : goal.returns
returns g c =
    let before = c.mark_texts.new.words in
    let words = c.mark_ranges.new.words in
    record {
      list = c.texts.ensures.list;
      all = c.mark_ranges.auto.words ∙ c.mark_texts.auto.words ∙ c.requires;
      texts = each_weaker (λ text. IsMarked before (first_of text)) (λ text. IsMarked words (first_of text)) (λ text marked. c.mark_ranges.ensures.kept (first_of text) marked)
          c.args.list.now.texts (subst (λ (texts : List (List ℕ)). AllByRecursion (λ text. IsMarked before (first_of text)) texts) c.texts.ensures.value c.mark_texts.ensures.marked);
      ranges = subst (λ (ranges : List CodePointRange). AllByRecursion (HasMarks words) ranges) c.ranges-2.ensures.value c.mark_ranges.ensures.marked;
    }
