use denote.Text.{Utf8}
use denote.Shadow.{shadow}
use Rattle.std.proofs.Common.{length}
use Rattle.std.specs.Str.{chars}
use Rattle.uca_elements.specs.Collations.{collation_of}
use Rattle.uca_plain.specs.PointCache.{AreTrueEntries}
use Rattle.uca_text_comparer.specs.inside.Shared.{IsRest}
use Rattle.uca_text_comparer.proofs.shared.skip_shared.Given as goal

-- both texts begin with the same plain code points
abbrev pub invariant-loop-point : goal.invariant-loop-point
invariant-loop-point g l =
    let c = collation_of g.L.Lookup.content l.collator in record {
      entries : AreTrueEntries c l.points.entries.items;
      left_text : shadow (Utf8 l.left);
      right_text : shadow (Utf8 l.right);
      rest : IsRest c (chars l.fn.left) (chars l.fn.right) (chars l.left) (chars l.right) l.after_variable l.passed;
    }

abbrev pub decreases-loop-point : goal.decreases-loop-point
decreases-loop-point g l = length (chars l.left)
