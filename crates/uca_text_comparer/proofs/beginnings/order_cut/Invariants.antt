use Rattle.std.proofs.Common.{length}
use denote.Text.{Utf8}
use denote.Shadow.{shadow}
use Rattle.std.specs.Str.{chars}
use Rattle.uca_elements.specs.Collations.{Collation}
use Rattle.uca_plain.specs.PointCache.{AreTrueEntries}
use Rattle.uca_text_comparer.specs.inside.LevelOne.{CompareAsRests}
use Rattle.uca_text_comparer.proofs.beginnings.order_cut.Given as goal

-- at level 1 the texts compare as what is left of them
abbrev pub invariant-loop-first : goal.invariant-loop-first
invariant-loop-first g l = record {
  left_text : shadow (Utf8 l.left_rest);
  right_text : shadow (Utf8 l.right_rest);
  rests : (c : Collation) → AreTrueEntries c l.points.entries.items →
      CompareAsRests c l.weighting (chars l.left) (chars l.right) (chars l.left_rest) (chars l.right_rest);
}

abbrev pub decreases-loop-first : goal.decreases-loop-first
decreases-loop-first g l = length (chars l.left_rest)
