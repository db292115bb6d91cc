use Rattle.uca_elements.specs.Collations.{collation_of}
use Rattle.uca_plain.specs.PointCache.{AreTrueEntries}
use Rattle.uca_key_writer.specs.inside.Pieces.{ReadsTo}
use Rattle.uca_key_writer.proofs.beginnings.push_beginning.Given as goal

-- what comes before the piece has given its elements to the levels
abbrev pub invariant-loop-point : goal.invariant-loop-point
invariant-loop-point g l =
    let c = collation_of g.L.Lookup.content l.collator in record {
      entries : AreTrueEntries c l.points.entries.items;
      reads : ReadsTo c l.weighting l.yielded l.levels l.piece;
    }
