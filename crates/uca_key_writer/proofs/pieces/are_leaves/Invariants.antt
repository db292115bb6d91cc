use Rattle.uca_elements.specs.Collations.{collation_of}
use Rattle.uca_plain.specs.PointCache.{AreTrueEntries}
use Rattle.uca_key_writer.proofs.pieces.are_leaves.Given as goal

abbrev pub invariant-loop-point : goal.invariant-loop-point
invariant-loop-point g l = AreTrueEntries (collation_of g.L.Lookup.content l.collator) l.points.entries.items
