use Rattle.std.proofs.Common.{length, drop, ◌-◌}
use Rattle.std.specs.Str.{chars, IsCharBoundary}
use Rattle.uca_elements.specs.Collations.{Collation}
use Rattle.uca_text_comparer.specs.Heads.{AreTrueHeads}
use Rattle.uca_text_comparer.specs.inside.LevelOne.{CompareAsRests}
use Rattle.uca_text_comparer.proofs.beginnings.order_heads.Given as goal

-- at level 1 the texts compare as what is left of them
abbrev pub invariant-loop-left_head : goal.invariant-loop-left_head
invariant-loop-left_head l = record {
  boundary : IsCharBoundary l.left l.left_at;
  boundary_too : IsCharBoundary l.right l.right_at;
  rests : (c : Collation) → AreTrueHeads c l.heads →
      CompareAsRests c l.heads.weighting (chars l.left) (chars l.right) (chars (drop l.left_at l.left)) (chars (drop l.right_at l.right));
}

abbrev pub decreases-loop-left_head : goal.decreases-loop-left_head
decreases-loop-left_head l = length l.left - l.left_at
