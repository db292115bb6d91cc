use Rattle.uca_editions.proofs.SearchLaws.{none_before, none_more, none_to_the_end, one_found}
use Rattle.std.proofs.Common.{ℕ, List, true≢false, sym, subst, ◌∙◌}
use Rattle.uca_text.specs.Occurring.{OccursInOrder}
use Rattle.uca_editions.proofs.searches.one_occurs.Goals as goal

pub returns-then-first_point-first-clause-none : goal.returns-then-first_point-first-clause-none
returns-then-first_point-first-clause-none g c = λ same.
    none_before c.args.texts.now c.text_place-place.result c.args.first c.args.points.now c.requires c.text_place-place.ensures.place
    c.loop-text.text-index c.text-item.result c.loop-text-test.true c.text-item.is (λ begins. c.if-first_point-first.true (c.first_point.ensures ∙ begins))
    c.loop-text.invariant

pub returns-clause-none : goal.returns-clause-none
returns-clause-none g c = λ same.
    none_to_the_end c.args.texts.now c.text_place-place.result c.args.first c.args.points.now c.requires c.text_place-place.ensures.place
    c.loop-text.text-index c.loop-text-test.false c.loop-text.invariant

pub returns-then-occurs_in_order-clause-found : goal.returns-then-occurs_in_order-clause-found
returns-then-occurs_in_order-clause-found g c = λ same.
    one_found c.args.texts.now c.text_place-place.result c.args.first c.args.points.now c.requires c.text_place-place.ensures.place
    c.loop-text.text-index c.text-item.result c.loop-text-test.true c.text-item.is
    (subst (λ (text : List ℕ). OccursInOrder text c.args.points.now) (c.deref.ensures.value ∙ c.text.view_is)
    (c.occurs_in_order.ensures.0 c.if-occurs_in_order.true))

pub loop-text-preserved : goal.loop-text-preserved
loop-text-preserved g c =
    none_more c.args.texts.now c.text_place-place.result c.args.first c.args.points.now c.requires c.text_place-place.ensures.place
    c.loop-text.text-index c.text-item.result c.loop-text-test.true c.text-item.is
    (λ occurs. true≢false (sym (c.occurs_in_order.ensures.1
    (subst (λ (text : List ℕ). OccursInOrder text c.args.points.now) (sym (c.deref.ensures.value ∙ c.text.view_is)) occurs)) ∙ c.if-occurs_in_order.false))
    c.loop-text.invariant
