use denote.Text.{Utf8}
use denote.Shadow.{shadow}
use Rattle.std.proofs.Common.{length}
use Rattle.std.specs.Str.{chars}
use Rattle.uca_elements.specs.Collations.{Collation}
use Rattle.uca_plain.specs.PointCache.{AreTrueEntries}
use Rattle.uca_text_comparer.specs.inside.Shared.{IsRest}
use Rattle.uca_text_comparer.proofs.shared.skip_cached.Given as goal

-- both texts begin with the same plain code points
abbrev pub invariant-loop-known : goal.invariant-loop-known
invariant-loop-known g l = record {
  left_text : shadow (Utf8 l.left);
  right_text : shadow (Utf8 l.right);
  rest : (c : Collation) → AreTrueEntries c l.points.entries.items →
      IsRest c (chars l.fn.left) (chars l.fn.right) (chars l.left) (chars l.right) l.after_variable l.passed;
}

abbrev pub decreases-loop-known : goal.decreases-loop-known
decreases-loop-known g l = length (chars l.left)
