use Rattle.std.proofs.Common.{◌≡◌, suc, List, Some, sym, ◌∙◌, subst, inl, ◌<◌, length}
use Rattle.uca_weights.specs.Levels.{level_of}
use Rattle.uca_relations.specs.declared.Relation.{Relation}
use Rattle.uca_tailorings.specs.Tailorings.{HasAnchor, anchor_elements, tailored_reading}
use Rattle.uca_audit.specs.Refusals.{IsFirstRelationWithout}
use Rattle.uca_tailorings.specs.declared.conditions.Condition.TheVariants.{Anchor}
use Rattle.uca_audit.specs.inside.Views.{tailoring_in}
use Rattle.uca_audit.proofs.RelationSteps.{each_further, each_whole, first_here, read_alike, found_has, none_has}
use Rattle.uca_audit.proofs.FirstRelations.{fails_at_relation}
use Rattle.uca_audit.proofs.conditions.anchors.anchors_are_there.Goals as goal

pub loop-at-init : goal.loop-at-init
loop-at-init g c = tt

pub returns : goal.returns
returns g c =
    each_whole (HasAnchor (tailoring_in c.args.inputs.now)) c.relations-relation-items.result.now _ c.loop-at.at c.relations-relation-items.ensures.value
    c.loop-at-test.false c.loop-at.invariant

pub loop-at-preserved : goal.loop-at-preserved
loop-at-preserved g c =
    let t = tailoring_in c.args.inputs.now in
    let r = c.relation-item.result in
    let strength : level_of r.strength ≡ Some c.in-Some.level = sym c.in-Some.ensures in
    let read : c.deref.result.now ≡ anchor_elements t r =
    c.deref.ensures.value ∙ c.in_ok-read_elements.ensures ∙ read_alike _ (tailored_reading t) c.requires r.anchor in
    each_further (HasAnchor t) c.relations-relation-items.result.now c.loop-at.at r c.loop-at-test.true c.relation-item.is c.loop-at.invariant
    (found_has t r c.in-Some.level c.deref.result.now c.anchor_place.result strength read c.anchor_place.ensures c.if-is_none.ensures)

pub at_relation-requires : goal.at_relation-requires
at_relation-requires g c = subst (λ (l : List Relation). c.loop-at.at < length l) c.relations-relation-items.ensures.value c.loop-at-test.true

pub returns-then-is_none : goal.returns-then-is_none
returns-then-is_none g c =
    let t = tailoring_in c.args.inputs.now in
    let r = c.relation-item.result in
    let strength : level_of r.strength ≡ Some c.in-Some.level = sym c.in-Some.ensures in
    let read : c.deref.result.now ≡ anchor_elements t r =
    c.deref.ensures.value ∙ c.in_ok-read_elements.ensures ∙ read_alike _ (tailored_reading t) c.requires r.anchor in
    inl (fails_at_relation t Anchor (λ before r after. HasAnchor t r) c.loop-at.at _ c.at_relation.ensures
    (subst (λ (relations : List Relation). IsFirstRelationWithout (λ before s after. HasAnchor t s) relations (suc c.loop-at.at)) c.relations-relation-items.ensures.value
    (first_here (HasAnchor t) c.relations-relation-items.result.now c.loop-at.at r c.loop-at-test.true c.relation-item.is c.loop-at.invariant
    (none_has t r c.in-Some.level c.deref.result.now c.anchor_place.result strength read c.anchor_place.ensures c.if-is_none.ensures)))
    (λ place at. at))
