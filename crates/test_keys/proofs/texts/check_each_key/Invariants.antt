-- Text by text, what is known of code points stays true.
use Rattle.uca_elements.specs.Collations.{collation_of}
use Rattle.uca_plain.specs.PointCache.{AreTrueEntries}
use Rattle.test_keys.proofs.texts.check_each_key.Given as goal

abbrev pub invariant-loop-case : goal.invariant-loop-case
invariant-loop-case g l = AreTrueEntries (collation_of g.L.Lookup.content l.collator) l.keys.points.entries.items
