use Rattle.std.proofs.Common.{suc, List, [], take, ◌+◌, sym, subst}
use Rattle.std.specs.List.{AllZip}
use Rattle.uca_relations.specs.declared.Relation.{Relation}
use Rattle.uca_tailorings.specs.Tailorings.{IsPlaced}
use Rattle.uca_audit.specs.declared.conditions.placements.Placement.{Placement}
use Rattle.uca_audit.specs.Refusals.{IsFirstRelationWithout}
use Rattle.uca_audit.specs.inside.Views.{IsPlacement, tailoring_in}
use Rattle.uca_audit.proofs.RelationSteps.{each_further, each_whole, zip_further, zip_whole, first_here}
use Rattle.uca_audit.proofs.TargetRows.{some_placed, none_placed}
use Rattle.uca_audit.proofs.conditions.placements.place_targets.Goals as goal

pub loop-at-init : goal.loop-at-init
loop-at-init g c =
    record { placed = tt; list = subst (λ (list : List Placement). AllZip (IsPlacement (tailoring_in c.args.inputs.now)) [] list) (sym c.requires.none) tt }

pub returns-clause-found : goal.returns-clause-found
returns-clause-found g c =
    each_whole (IsPlaced (tailoring_in c.args.inputs.now)) c.relations-relation-items.result.now _ c.loop-at.at c.relations-relation-items.ensures.value
    c.loop-at-test.false c.loop-at.invariant.placed

pub returns-clause-placed : goal.returns-clause-placed
returns-clause-placed g c =
    zip_whole (IsPlacement (tailoring_in c.args.inputs.now)) c.relations-relation-items.result.now _ c.loop-at.list.items c.loop-at.at
    c.relations-relation-items.ensures.value c.loop-at-test.false c.loop-at.invariant.list

pub returns-in_default-clause-found : goal.returns-in_default-clause-found
returns-in_default-clause-found g c =
    let t = tailoring_in c.args.inputs.now in
    let r = c.relation-item.result in
    subst (λ (relations : List Relation). IsFirstRelationWithout (λ before s after. IsPlaced t s) relations (suc c.loop-at.at)) c.relations-relation-items.ensures.value
    (first_here (IsPlaced t) c.relations-relation-items.result.now c.loop-at.at r c.loop-at-test.true c.relation-item.is c.loop-at.invariant.placed
    (none_placed t r c.in_ok-placement.field-0 (c.in_ok-placement.ensures t c.requires.reads) c.in_default.not-Some))

pub loop-at-preserved : goal.loop-at-preserved
loop-at-preserved g c =
    let t = tailoring_in c.args.inputs.now in
    let r = c.relation-item.result in
    let relations : List Relation = c.relations-relation-items.result.now in
    let here = some_placed t r c.in_ok-placement.field-0 c.in-Some.placement (c.in_ok-placement.ensures t c.requires.reads) c.in-Some.is in
    record {
      placed = each_further (IsPlaced t) relations c.loop-at.at r c.loop-at-test.true c.relation-item.is c.loop-at.invariant.placed here.1;
      list = subst (λ (list : List Placement). AllZip (IsPlacement t) (take (c.loop-at.at + 1) relations) list) (sym c.in_ok-push.ensures.items)
          (zip_further (IsPlacement t) relations c.loop-at.list.items c.loop-at.at r c.in-Some.placement c.loop-at-test.true c.relation-item.is c.loop-at.invariant.list here.0);
    }
