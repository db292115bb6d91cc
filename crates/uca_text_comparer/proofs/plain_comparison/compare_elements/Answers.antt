use Rattle.std.proofs.Common.{ℕ, inl, inr, sym, subst, ◌∙◌, arith}
use Rattle.uca_order.specs.Levels.{level_count}
use Rattle.uca_comparison.specs.Fronts.{FrontState}
use Rattle.uca_comparison.specs.Walks.{Stands, Walks, none_decided}
use Rattle.uca_comparison.proofs.LevelSteps.{all_levels, not_equal}
use Rattle.uca_text_comparer.proofs.plain_comparison.compare_elements.Goals as goal

pub returns : goal.returns
returns c = λ es fs stands.
    let weighting = c.args.weighting in
    let walked = c.walk_fronts-walked.result in
    let right : FrontState = record { elements = c.args.right.now; after_variable = c.args.after_variable; passed = c.args.passed } in
    let one = subst (λ (f : FrontState). Stands weighting es fs f right (none_decided 1 (level_count weighting))) (sym c.after-left.ensures) stands in
    let two = subst (λ (f : FrontState). Stands weighting es fs c.after-left.result f (none_decided 1 (level_count weighting))) (sym c.after-right.ensures) one in
    let three = subst (λ (n : ℕ). Stands weighting es fs c.after-left.result c.after-right.result (none_decided 1 n)) (sym c.level_count-count.ensures) two in
    all_levels weighting es fs walked (subst (λ (n : ℕ). Walks weighting 1 n es fs walked) c.level_count-count.ensures (c.walk_fronts-walked.ensures es fs three))
    (λ e. elim c.else-eq.either [
      | inl both ↦ omega (arith, both.1, c.level_count-count.ensures)
      | inr other ↦ absurd (not_equal walked.order (sym other ∙ c.eq.ensures) e)
    ])
