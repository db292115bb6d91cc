use Rattle.uca_text_comparer.proofs.primaries.compare_later.Goals as goal

pub returns : goal.returns
returns g c = λ collation xs ys entries together. c.compare_first.ensures collation xs ys entries (c.skip_equal-pair.ensures collation xs ys entries together)
