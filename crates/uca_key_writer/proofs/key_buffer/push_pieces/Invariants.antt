use Rattle.std.proofs.Common.{[], length}
use denote.Text.{Utf8}
use denote.Shadow.{shadow}
use Rattle.std.specs.Str.{chars}
use Rattle.uca_elements.specs.Collations.{collation_of}
use Rattle.uca_plain.specs.PointCache.{AreTrueEntries}
use Rattle.uca_key_writer.specs.inside.Stretches.{ReadsMore}
use Rattle.uca_key_writer.proofs.key_buffer.push_pieces.Given as goal

-- what comes before the piece has given its elements to the levels
abbrev pub invariant-loop-point : goal.invariant-loop-point
invariant-loop-point g l =
    let c = collation_of g.L.Lookup.content l.collator in record {
      utf8 : shadow (Utf8 l.rest);
      entries : AreTrueEntries c l.points.entries.items;
      reads : ReadsMore c l.weighting [] l.text l.rest l.levels l.piece;
    }

abbrev pub decreases-loop-point : goal.decreases-loop-point
decreases-loop-point g l = length (chars l.rest)
