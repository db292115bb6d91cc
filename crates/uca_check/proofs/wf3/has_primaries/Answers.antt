-- One more element has the property, or one has not.
use Rattle.std.proofs.Common.{◌≢◌, sym, subst, refl, ap, ◌∙◌}
use Rattle.std.specs.List.{AllByRecursion}
use Rattle.std.proofs.lemmas.Bool.{false≢true, iff_false}
use Rattle.std.proofs.lemmas.List.{take_all}
use Rattle.uca_check.specs.WellFormed.{IsVariable}
use Rattle.uca_check.proofs.Elements.{each_at, each_taken}
use Rattle.uca_check.proofs.wf3.has_primaries.Goals as goal

pub loop-element-preserved : goal.loop-element-preserved
loop-element-preserved g c =
    each_taken (λ e. IsVariable e → e.primary ≢ 0) c.deref-element-items.result.now c.loop-element.element-index _ c.loop-element-test.true c.loop-element.invariant
    (c.has_primary.ensures.0 c.if-not-has_primary.false)

pub returns-then-not-has_primary : goal.returns-then-not-has_primary
returns-then-not-has_primary g c =
    let same = c.deref-element-items.ensures.value ∙ ap (λ row. row.elements) c.row.view_is in (
      (λ h. absurd (false≢true h)),
      λ all. absurd (iff_false c.has_primary.ensures c.if-not-has_primary.true (each_at (λ e. IsVariable e → e.primary ≢ 0) c.deref-element-items.result.now
          c.loop-element.element-index _ c.loop-element-test.true (subst (AllByRecursion (λ e. IsVariable e → e.primary ≢ 0)) (sym same) all))),
    )

pub returns : goal.returns
returns g c =
    let same = c.deref-element-items.ensures.value ∙ ap (λ row. row.elements) c.row.view_is in (
      (λ _. subst (AllByRecursion (λ e. IsVariable e → e.primary ≢ 0)) (take_all c.loop-element.element-index c.deref-element-items.result.now c.loop-element-test.false ∙ same)
          c.loop-element.invariant),
      λ _. refl,
    )
