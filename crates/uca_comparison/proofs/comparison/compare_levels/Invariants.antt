use Rattle.std.proofs.Common.{◌≡◌, ◌-◌}
use Rattle.uca_elements.specs.Collations.{collation_of, elements_of}
use Rattle.uca_order.specs.Levels.{level_count}
use Rattle.uca_comparison.specs.Walks.{Walks}
use Rattle.uca_comparison.proofs.comparison.compare_levels.Given as goal

-- the levels that were walked
abbrev pub invariant-loop-weighting : goal.invariant-loop-weighting
invariant-loop-weighting g l =
    let c = collation_of g.L.Lookup.content l.collator in
    Walks l.weighting 1 (level_count l.weighting) (elements_of c l.left) (elements_of c l.right) l.walked × (l.count ≡ level_count l.weighting)

abbrev pub decreases-loop-weighting : goal.decreases-loop-weighting
decreases-loop-weighting g l = l.count - l.walked.last
