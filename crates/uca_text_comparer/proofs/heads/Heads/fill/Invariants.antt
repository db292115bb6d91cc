use Rattle.std.proofs.Common.{◌≡◌, length, ◌-◌}
use Rattle.uca_elements.specs.Collations.{collation_of}
use Rattle.uca_plain.specs.PointCache.{AreTrueEntries}
use Rattle.uca_text_comparer.specs.Heads.{AreTrueHeads}
use Rattle.uca_text_comparer.proofs.heads.Heads.fill.Given as goal

-- all that is known so far is true
abbrev pub invariant-loop-weighting : goal.invariant-loop-weighting
invariant-loop-weighting g l = record {
  entries : AreTrueEntries (collation_of g.L.Lookup.content l.collator) l.points.entries.items;
  heads : AreTrueHeads (collation_of g.L.Lookup.content l.collator) l.self;
  under : l.self.weighting ≡ l.weighting;
}

abbrev pub decreases-loop-weighting : goal.decreases-loop-weighting
decreases-loop-weighting g l = 2048 - length l.self.items.items
