-- The first relation whose target has no tailored row.
use Rattle.std.proofs.Common.{suc, List, sym, subst, ◌∙◌}
use Rattle.std.proofs.lemmas.Bool.{false≢true}
use Rattle.uca_elements.specs.Rows.{rows_of}
use Rattle.uca_relations.specs.declared.Relation.{Relation}
use Rattle.uca_tailorings.specs.Tailorings.{IsPresentTarget}
use Rattle.uca_audit.specs.Refusals.{IsFirstRelationWithout}
use Rattle.uca_audit.specs.inside.Views.{tailoring_in}
use Rattle.uca_audit.proofs.RelationSteps.{each_further, each_whole, first_here}
use Rattle.uca_audit.proofs.TargetRows.{key_alike}
use Rattle.uca_audit.proofs.conditions.rows.first_missing_target.Goals as goal

pub returns : goal.returns
returns g c =
    each_whole (IsPresentTarget (tailoring_in c.args.inputs.now)) c.relations-relation-items.result.now _ c.loop-at.at c.relations-relation-items.ensures.value
    c.loop-at-test.false c.loop-at.invariant

pub loop-at-preserved : goal.loop-at-preserved
loop-at-preserved g c =
    let t = tailoring_in c.args.inputs.now in
    let alike = key_alike _ (rows_of t.tailored.rows) c.requires c.chars.result.now c.relation-item.result.target.points c.chars.ensures.value in
    each_further (IsPresentTarget t) c.relations-relation-items.result.now c.loop-at.at c.relation-item.result c.loop-at-test.true c.relation-item.is
    c.loop-at.invariant (alike.0 (c.is_key.ensures.0 c.if-not-is_key.false))

pub returns-then-not-is_key : goal.returns-then-not-is_key
returns-then-not-is_key g c =
    let t = tailoring_in c.args.inputs.now in
    let alike = key_alike _ (rows_of t.tailored.rows) c.requires c.chars.result.now c.relation-item.result.target.points c.chars.ensures.value in
    subst (λ (relations : List Relation). IsFirstRelationWithout (λ before s after. IsPresentTarget t s) relations (suc c.loop-at.at))
    c.relations-relation-items.ensures.value
    (first_here (IsPresentTarget t) c.relations-relation-items.result.now c.loop-at.at c.relation-item.result c.loop-at-test.true c.relation-item.is
    c.loop-at.invariant (λ has. false≢true (sym c.if-not-is_key.true ∙ c.is_key.ensures.1 (alike.1 has))))
