-- One more element has the property, or one has not.
use Rattle.std.proofs.Common.{sym, subst, refl, ap, ◌∙◌}
use Rattle.std.specs.List.{AllByRecursion}
use Rattle.std.proofs.lemmas.Bool.{false≢true, iff_false}
use Rattle.std.proofs.lemmas.List.{take_all}
use Rattle.uca_check.specs.Searches.{StandsApart}
use Rattle.uca_check.proofs.Elements.{each_at, each_taken}
use Rattle.uca_check.proofs.wf4.all_stand_apart.Goals as goal

pub loop-element-preserved : goal.loop-element-preserved
loop-element-preserved g c =
    each_taken (StandsApart c.args.range) c.deref-element-items.result.now c.loop-element.element-index _ c.loop-element-test.true c.loop-element.invariant
    (c.stands_apart.ensures.0 c.if-not-stands_apart.false)

pub returns-then-not-stands_apart : goal.returns-then-not-stands_apart
returns-then-not-stands_apart g c =
    let same = c.deref-element-items.ensures.value ∙ ap (λ row. row.elements) c.row.view_is in (
      (λ h. absurd (false≢true h)),
      λ all. absurd (iff_false c.stands_apart.ensures c.if-not-stands_apart.true (each_at (StandsApart c.args.range) c.deref-element-items.result.now
          c.loop-element.element-index _ c.loop-element-test.true (subst (AllByRecursion (StandsApart c.args.range)) (sym same) all))),
    )

pub returns : goal.returns
returns g c =
    let same = c.deref-element-items.ensures.value ∙ ap (λ row. row.elements) c.row.view_is in (
      (λ _. subst (AllByRecursion (StandsApart c.args.range)) (take_all c.loop-element.element-index c.deref-element-items.result.now c.loop-element-test.false ∙ same)
          c.loop-element.invariant),
      λ _. refl,
    )
