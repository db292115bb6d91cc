-- Pair by pair, what is known of code points stays true.
use Rattle.uca_elements.specs.Collations.{collation_of}
use Rattle.uca_plain.specs.PointCache.{AreTrueEntries}
use Rattle.test_keys.proofs.texts.check_pairs.Given as goal

abbrev pub invariant-loop-pair : goal.invariant-loop-pair
invariant-loop-pair g l = AreTrueEntries (collation_of g.L.Lookup.content l.collator) l.comparison.plain.points.entries.items
