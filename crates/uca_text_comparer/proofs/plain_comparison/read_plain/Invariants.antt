use Rattle.std.proofs.Common.{◌≡◌}
use Rattle.std.specs.List.{flat_map}
use Rattle.uca_elements.specs.Collations.{collation_of}
use Rattle.uca_plain.specs.Plain.{ArePlain, elements_alone}
use Rattle.uca_plain.specs.PointCache.{AreTrueEntries}
use Rattle.uca_text_comparer.proofs.plain_comparison.read_plain.Given as goal

-- the code points so far are plain, and have given their elements
abbrev pub invariant-loop-point : goal.invariant-loop-point
invariant-loop-point g l =
    let c = collation_of g.L.Lookup.content l.collator in record {
      entries : AreTrueEntries c l.points.entries.items;
      plain : ArePlain c l.yielded;
      elements : l.elements.items ≡ flat_map (elements_alone c) l.yielded;
    }
