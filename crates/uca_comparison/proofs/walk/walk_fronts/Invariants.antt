use Rattle.std.proofs.Common.{◌≡◌, ◌≤◌, ◌+◌, length, List}
use Rattle.uca_weights.specs.declared.Element.{Element}
use Rattle.uca_comparison.specs.Walks.{Stands, none_decided}
use Rattle.uca_comparison.proofs.walk.walk_fronts.Given as goal

abbrev pub invariant-loop-right : goal.invariant-loop-right
invariant-loop-right g l =
    ((es fs : List Element) → Stands l.weighting es fs l.fn.left l.fn.right (none_decided l.first l.last) → Stands l.weighting es fs l.left l.right l.levels)
    × (l.levels.first ≡ l.first) × (l.first ≤ l.levels.through) × (l.levels.last ≤ l.last) × (l.levels.through ≤ l.levels.last)

abbrev pub decreases-loop-right : goal.decreases-loop-right
decreases-loop-right g l = length l.left.elements + length l.right.elements
