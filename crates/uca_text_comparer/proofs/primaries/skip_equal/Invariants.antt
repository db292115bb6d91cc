use Rattle.std.proofs.Common.{ℕ, List, length}
use Rattle.std.specs.Str.{chars}
use Rattle.uca_elements.specs.Collations.{Collation}
use Rattle.uca_plain.specs.PointCache.{AreTrueEntries}
use Rattle.uca_text_comparer.specs.inside.Primaries.{GoTogether}
use Rattle.uca_text_comparer.proofs.primaries.skip_equal.Given as goal

-- the texts go on together at level 1
abbrev pub invariant-loop-next : goal.invariant-loop-next
invariant-loop-next g l = (c : Collation) (xs ys : List ℕ) → AreTrueEntries c l.points.entries.items
    → GoTogether c l.weighting xs ys (chars l.fn.begin.left.now) (chars l.fn.begin.right.now) l.fn.begin.passed_left l.fn.begin.passed_right
    → GoTogether c l.weighting xs ys (chars l.pair.left.now) (chars l.pair.right.now) l.pair.passed_left l.pair.passed_right

abbrev pub decreases-loop-next : goal.decreases-loop-next
decreases-loop-next g l = length (chars l.pair.left.now)
