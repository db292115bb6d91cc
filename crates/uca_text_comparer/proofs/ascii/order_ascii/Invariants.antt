use Rattle.std.proofs.Common.{length, drop, ◌≤◌, ◌-◌}
use Rattle.std.specs.Str.{chars, IsCharBoundary}
use Rattle.uca_weights.specs.declared.Weighting.{Weighting}
use Rattle.uca_elements.specs.Collations.{Collation}
use Rattle.uca_text_comparer.specs.Heads.{AreHeadsFrom}
use Rattle.uca_text_comparer.specs.inside.LevelOne.{CompareAsRests}
use Rattle.uca_text_comparer.proofs.ascii.order_ascii.Given as goal

-- at level 1 the texts compare as what is left of them, if a code point begins there
abbrev pub invariant-loop-at : goal.invariant-loop-at
invariant-loop-at l = record {
  within : l.at ≤ length l.left;
  within_too : l.at ≤ length l.right;
  rests : (c : Collation) (weighting : Weighting) → AreHeadsFrom c weighting 0 l.ascii → IsCharBoundary l.left l.at →
      CompareAsRests c weighting (chars l.left) (chars l.right) (chars (drop l.at l.left)) (chars (drop l.at l.right));
}

abbrev pub decreases-loop-at : goal.decreases-loop-at
decreases-loop-at l = length l.left - l.at
