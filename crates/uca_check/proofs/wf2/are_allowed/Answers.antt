-- One more element has the property, or one has not.
use Rattle.std.proofs.Common.{sym, subst, refl, ap, ◌∙◌}
use Rattle.std.specs.List.{AllByRecursion}
use Rattle.std.proofs.lemmas.Bool.{false≢true, iff_false}
use Rattle.std.proofs.lemmas.List.{take_all}
use Rattle.uca_check.specs.Searches.{IsAllowed}
use Rattle.uca_check.proofs.Elements.{each_at, each_taken}
use Rattle.uca_check.proofs.wf2.are_allowed.Goals as goal

pub loop-element-preserved : goal.loop-element-preserved
loop-element-preserved g c =
    each_taken (IsAllowed c.args.greatest) c.deref-element-items.result.now c.loop-element.element-index _ c.loop-element-test.true c.loop-element.invariant
    (c.allows.ensures.0 c.if-not-allows.false)

pub returns-then-not-allows : goal.returns-then-not-allows
returns-then-not-allows g c =
    let same = c.deref-element-items.ensures.value ∙ ap (λ row. row.elements) c.row.view_is in (
      (λ h. absurd (false≢true h)),
      λ all. absurd (iff_false c.allows.ensures c.if-not-allows.true (each_at (IsAllowed c.args.greatest) c.deref-element-items.result.now
          c.loop-element.element-index _ c.loop-element-test.true (subst (AllByRecursion (IsAllowed c.args.greatest)) (sym same) all))),
    )

pub returns : goal.returns
returns g c =
    let same = c.deref-element-items.ensures.value ∙ ap (λ row. row.elements) c.row.view_is in (
      (λ _. subst (AllByRecursion (IsAllowed c.args.greatest)) (take_all c.loop-element.element-index c.deref-element-items.result.now c.loop-element-test.false ∙ same)
          c.loop-element.invariant),
      λ _. refl,
    )
