-- The relations so far are drafted, or the next one is the first that is rejected.
use Rattle.std.proofs.Common.{◌≡◌, List, Ok, length, map, sym, ap, subst, ◌∙◌, arith}
use Rattle.std.specs.List.{AllByRecursion}
use Rattle.std.proofs.lemmas.List.{length-map}
use Rattle.uca_values.specs.Content.{TableContent, AreRows, keys_of, properties_of}
use Rattle.uca_check.specs.WellFormed.{elements_of}
use Rattle.uca_plans.specs.Drafts.{row_as_draft}
use Rattle.uca_plans.specs.Plans.{Basis, begun, with_relations}
use Rattle.uca_plans.specs.Tailors.{basis_of}
use Rattle.uca_match.specs.Tries.{positions}
use Rattle.uca_relations.specs.declared.Relation.{Relation}
use Rattle.uca_relations.specs.Relations.{AreRules}
use Rattle.uca_plans.specs.Lists.{InsertsBelow}
use Rattle.uca_tailor.specs.inside.KeyRows.{ArePositions}
use Rattle.uca_tailor.specs.inside.Variables.{AreBounds}
use Rattle.uca_tailor.proofs.DraftLemmas.Readiness.{ready}
use Rattle.uca_tailor.proofs.DraftLemmas.DraftingSteps.{none_drafted, one_more, rejected_first, all_drafted}
use Rattle.uca_tailor.proofs.DraftLemmas.Names.{drafts_named, named_below}
use Rattle.uca_tailor.proofs.drafts.drafting.draft_over.Goals as goal

pub loop-at-init : goal.loop-at-init
loop-at-init g c =
    let rows = c.in_ok-drafting.ensures.rows ∙ ap (map row_as_draft) (c.deref-2.ensures.value ∙ ap (λ (t : TableContent). t.rows) c.base.view_is) in
    let base = subst (λ (t : TableContent). AreRows t.rows) c.base.view_is c.base.invariant in
    none_drafted _ _ c.in_ok-drafting.drafting rows c.in_ok-drafting.ensures.insertions
    (omega (arith, base.few, ap length rows, length-map c.args.base.now.rows row_as_draft))

pub overflow_cast-at : goal.overflow_cast-at
overflow_cast-at g c = omega (arith, c.relations-relation-items.ensures.rules.few, ap length c.relations-relation-items.ensures.value)

pub add-requires-clause-index : goal.add-requires-clause-index
add-requires-clause-index g c = omega (arith, c.relations-relation-items.ensures.rules.few, ap length c.relations-relation-items.ensures.value)

pub add-requires-clause-bounds : goal.add-requires-clause-bounds
add-requires-clause-bounds g c =
    let rows = c.deref.ensures.value ∙ ap (λ (t : TableContent). t.rows) c.base.view_is in
    subst (λ rs. AreBounds c.variable_span.result (elements_of rs)) rows c.variable_span.ensures

pub add-requires-clause-ready : goal.add-requires-clause-ready
add-requires-clause-ready g c =
    ready _ _ c.relations-relation-items.result.now c.loop-at.at c.relation-item.result c.loop-at.drafting
    (subst AreRules (sym c.relations-relation-items.ensures.value) c.relations-relation-items.ensures.rules)
    (subst (λ (rs : List Relation). ArePositions (keys_of c.args.base.now.rows) rs (positions c.args.key_rows.now)) (sym c.relations-relation-items.ensures.value)
    c.requires)
    c.loop-at-test.true c.relation-item.is c.loop-at.invariant

pub loop-at-preserved : goal.loop-at-preserved
loop-at-preserved g c =
    one_more _ c.relations-relation-items.result.now c.loop-at.at c.relation-item.result c.loop-at.drafting c.add.new.self
    c.loop-at-test.true c.relation-item.is c.loop-at.invariant c.in-Ok.ensures.added

pub returns-clause-drafted : goal.returns-clause-drafted
returns-clause-drafted g c =
    let basis : Basis = basis_of c.args.base.now (properties_of c.args.properties.now) in
    subst (λ (rs : List Relation). with_relations basis 0 rs (begun basis) ≡ Ok c.loop-at.drafting) c.relations-relation-items.ensures.value
    (all_drafted basis c.relations-relation-items.result.now c.loop-at.at c.loop-at.drafting c.loop-at-test.false c.loop-at.invariant)

pub returns-clause-names : goal.returns-clause-names
returns-clause-names g c =
    let basis : Basis = basis_of c.args.base.now (properties_of c.args.properties.now) in
    subst (λ (rs : List Relation). AllByRecursion (InsertsBelow (length rs)) c.loop-at.drafting.insertions) c.relations-relation-items.ensures.value
    (named_below 0 (length c.relations-relation-items.result.now) c.loop-at.drafting.insertions
    (drafts_named basis c.relations-relation-items.result.now c.loop-at.drafting
    (all_drafted basis c.relations-relation-items.result.now c.loop-at.at c.loop-at.drafting c.loop-at-test.false c.loop-at.invariant)))

pub returns-in-Err-clause-rejected : goal.returns-in-Err-clause-rejected
returns-in-Err-clause-rejected g c =
    let basis : Basis = basis_of c.args.base.now (properties_of c.args.properties.now) in
    rejected_first basis c.relations-relation-items.result.now c.args.rules.now c.relations-relation-items.ensures.value
    c.loop-at.at c.relation-item.result c.loop-at.drafting c.in-Err.fault c.loop-at-test.true c.relation-item.is c.loop-at.invariant c.in-Err.ensures.rejected
