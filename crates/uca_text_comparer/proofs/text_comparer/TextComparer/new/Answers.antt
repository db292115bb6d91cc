use Rattle.uca_elements.specs.Collations.{collation_of}
use Rattle.uca_text_comparer.proofs.text_comparer.TextComparer.new.Goals as goal

pub invariant_of-result : goal.invariant_of-result
invariant_of-result g c = (c.new.ensures (collation_of g.L.Lookup.content c.args.collator)).entries
