use Rattle.uca_elements.specs.Collations.{Collation}
use Rattle.uca_plain.specs.PointCache.{AreTrueEntries}
use Rattle.uca_text_comparer.specs.inside.Shared.{HasCount}
use Rattle.uca_text_comparer.proofs.plain_comparison.count_elements.Given as goal

-- the code points so far are plain, and their elements are counted
abbrev pub invariant-loop-point : goal.invariant-loop-point
invariant-loop-point g l = (c : Collation) → AreTrueEntries c l.points.entries.items → HasCount c l.yielded l.count
