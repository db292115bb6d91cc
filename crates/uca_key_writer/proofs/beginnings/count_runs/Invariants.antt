use denote.Text.{Utf8}
use denote.Shadow.{shadow}
use Rattle.std.proofs.Common.{◌≤◌, length}
use Rattle.std.specs.Str.{chars}
use Rattle.uca_elements.specs.Collations.{collation_of}
use Rattle.uca_plain.specs.PointCache.{AreTrueEntries}
use Rattle.uca_key_writer.specs.inside.Beginnings.{IsJudgedTo}
use Rattle.uca_key_writer.proofs.beginnings.count_runs.Given as goal

-- the text before the rest has no long run
abbrev pub invariant-loop-point : goal.invariant-loop-point
invariant-loop-point g l =
    let c = collation_of g.L.Lookup.content l.collator in record {
      utf8 : shadow (Utf8 l.rest);
      entries : AreTrueEntries c l.points.entries.items;
      few : l.count ≤ 64;
      judged : IsJudgedTo c (chars l.text) l.rest l.count;
    }

abbrev pub decreases-loop-point : goal.decreases-loop-point
decreases-loop-point g l = length (chars l.rest)
