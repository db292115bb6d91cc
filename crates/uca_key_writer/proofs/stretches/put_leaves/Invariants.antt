use Rattle.std.proofs.Common.{ℕ, ◌*◌, ◌-◌, ◌++◌, List, take}
use Rattle.std.specs.List.{flat_map}
use Rattle.uca_weights.specs.declared.Element.{Element}
use Rattle.uca_elements.specs.Collations.{Collation}
use Rattle.uca_plain.specs.Leaves.{AreLeaves, leaf_elements}
use Rattle.uca_key_writer.specs.inside.LevelBuffers.{HasRoom, HoldsLevels, levels_of}
use Rattle.uca_plain.specs.PointCache.{AreTrueEntries}
use Rattle.uca_key_writer.proofs.stretches.put_leaves.Given as goal

-- the leaves so far were put
abbrev pub invariant-loop-point : goal.invariant-loop-point
invariant-loop-point g l = record {
  room : HasRoom (3 * (64 - l.point-index)) l.counts l.primary l.secondary l.tertiary l.quaternary;
  leaves : (c : Collation) → AreTrueEntries c l.points.entries.items → AreLeaves c (take l.point-index l.text);
  holds : (c : Collation) (key : List ℕ) (es : List Element) → AreTrueEntries c l.points.entries.items →
      HoldsLevels l.weighting es (levels_of l.initial.after_variable l.initial.counts l.initial.primary l.initial.secondary l.initial.tertiary l.initial.quaternary key) →
      HoldsLevels l.weighting (es ++ flat_map (leaf_elements c) (take l.point-index l.text))
      (levels_of l.after_variable l.counts l.primary l.secondary l.tertiary l.quaternary key);
}
