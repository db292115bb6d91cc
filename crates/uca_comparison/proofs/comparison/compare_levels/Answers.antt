use Rattle.std.proofs.Common.{◌∙◌, refl, sym, subst, ℕ, ◌+◌}
use Rattle.uca_elements.specs.Collations.{collation_of, elements_of}
use Rattle.uca_comparison.specs.Walks.{Walks}
use Rattle.uca_comparison.proofs.LevelSteps.{next_levels, all_levels, is_equal, not_equal}
use Rattle.uca_comparison.proofs.comparison.compare_levels.Goals as goal

pub loop-weighting-preserved : goal.loop-weighting-preserved
loop-weighting-preserved g c =
    let by = collation_of g.L.Lookup.content c.args.collator.now in
    let es = elements_of by c.args.left.now in
    let fs = elements_of by c.args.right.now in (
      next_levels c.args.weighting es fs _ _ c.loop-weighting.walked c.walk-next.result c.loop-weighting.invariant.0
          (is_equal c.loop-weighting.walked.order (sym c.loop-weighting-test.true ∙ c.eq.ensures)) refl
          (subst (λ (n : ℕ). Walks c.args.weighting (c.loop-weighting.walked.last + 1) n es fs c.walk-next.result) c.level_count-count.ensures c.walk-next.ensures),
      c.level_count-count.ensures,
    )

pub returns-after-loop-weighting : goal.returns-after-loop-weighting
returns-after-loop-weighting g c =
    let by = collation_of g.L.Lookup.content c.args.collator.now in
    all_levels c.args.weighting (elements_of by c.args.left.now) (elements_of by c.args.right.now) c.loop-weighting.walked c.loop-weighting.invariant.0
    (λ e. absurd (not_equal c.loop-weighting.walked.order (sym c.loop-weighting-test.false ∙ c.eq.ensures) e))
