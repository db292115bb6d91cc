-- Why the row is rejected, or that it takes the position.
use Rattle.std.proofs.Common.{◌≡◌, ◌≢◌, ◌<◌, ◌≤◌, ◌++◌, List, Some, length, refl, sym, ap, subst, ◌∙◌, arith}
use Rattle.uca_check.specs.WellFormed.{elements_of}
use Rattle.uca_match.specs.Tries.{positions}
use Rattle.uca_plans.specs.declared.drafts.DraftElement.{DraftElement}
use Rattle.uca_plans.specs.declared.drafts.Insertion.{Insertion}
use Rattle.uca_plans.specs.Drafts.{DraftRow}
use Rattle.uca_plans.specs.Keys.{keys_in, is_among}
use Rattle.uca_plans.specs.Plans.{Basis, Drafted, Drafting}
use Rattle.uca_plans.proofs.PlanSteps.{target_row}
use Rattle.uca_tailor.specs.inside.KeyRows.{IsRowOf}
use Rattle.uca_tailor.specs.inside.Ready.{basis_in}
use Rattle.uca_tailor.specs.declared.drafts.targets.TargetDraft.{TargetDraft}
use Rattle.uca_tailor.specs.declared.drafts.targets.TargetDraft.TheVariants.{AnchorRejected, Identical, NewWeight}
use Rattle.uca_tailor.specs.inside.Targets.{drafted_with, insertions_of}
use Rattle.uca_tailor.proofs.DraftLemmas.VariableLaws.{holds_is}
use Rattle.uca_tailor.proofs.DraftLemmas.DraftingSteps.{refused_anchor, refused_prefix, refused_limit, too_many, refused_room, refused_variable, in_limits, row_put}
use Rattle.uca_tailor.proofs.drafts.drafting.row_for.Goals as goal

-- the rows so far, and where the new weights go
abbrev with_rows : List DraftRow → List Insertion → Drafting
with_rows rows insertions = record { rows = rows; insertions = insertions }

abbrev with_elements : List DraftElement → List Insertion → Drafted
with_elements elements insertions = record { elements = elements; insertions = insertions }

-- what is drafted has these elements, unless the anchor is rejected
with_draft : (elements : List DraftElement) (draft : TargetDraft) → draft ≢ AnchorRejected →
    drafted_with elements draft ≡ Some (with_elements elements (insertions_of draft))
with_draft elements AnchorRejected not = absurd (not refl)
with_draft elements Identical not = refl
with_draft elements (NewWeight insertion) not = refl

pub returns-in-AnchorRejected : goal.returns-in-AnchorRejected
returns-in-AnchorRejected g c so_far n gives =
    refused_anchor (basis_in c.args.basis.now) (with_rows c.args.rows.now so_far) n c.args.relation.now
    (gives ∙ ap (drafted_with c.args.elements.now) c.in-AnchorRejected.is)

pub needs_prefix-requires : goal.needs_prefix-requires
needs_prefix-requires g c = (c.requires.ready.more, c.requires.ready.each)

pub returns-then-needs_prefix : goal.returns-then-needs_prefix
returns-then-needs_prefix g c so_far n gives =
    refused_prefix (basis_in c.args.basis.now) (with_rows c.args.rows.now so_far) n c.args.relation.now
    (with_elements c.args.elements.now (insertions_of c.args.draft)) (gives ∙ with_draft c.args.elements.now c.args.draft c.in_default.not-AnchorRejected)
    (sym c.needs_prefix.ensures ∙ c.if-needs_prefix.true)

pub returns-in_default-row_of_key : goal.returns-in_default-row_of_key
returns-in_default-row_of_key g c so_far n gives =
    refused_room (basis_in c.args.basis.now) (positions c.args.basis.now.key_rows.now) (with_rows c.args.rows.now so_far) n c.args.relation.now
    (with_elements c.args.elements.now (insertions_of c.args.draft)) c.requires.ready
    (gives ∙ with_draft c.args.elements.now c.args.draft c.in_default.not-AnchorRejected) (sym c.needs_prefix.ensures ∙ c.if-needs_prefix.false)
    (ap (is_among (keys_in c.args.rows.now ++ c.requires.ready.more)) (sym c.chars.ensures.value) ∙ c.in_default-row_of_key.ensures _ c.requires.ready.each)

pub returns-then-elements-gt-MOST_ELEMENTS : goal.returns-then-elements-gt-MOST_ELEMENTS
returns-then-elements-gt-MOST_ELEMENTS g c so_far n gives =
    let basis : Basis = basis_in c.args.basis.now in
    let drafted : Drafted = with_elements c.args.elements.now (insertions_of c.args.draft) in
    let many : 32 < length c.args.elements.now = omega arith in
    refused_limit basis (with_rows c.args.rows.now so_far) n c.args.relation.now drafted
    (gives ∙ with_draft c.args.elements.now c.args.draft c.in_default.not-AnchorRejected) (sym c.needs_prefix.ensures ∙ c.if-needs_prefix.false)
    (too_many basis (positions c.args.basis.now.key_rows.now) c.args.rows.now c.args.relation.now c.requires.ready (target_row c.args.relation.now drafted) refl many)

pub returns-then-holds_implicit_variable : goal.returns-then-holds_implicit_variable
returns-then-holds_implicit_variable g c so_far n gives =
    let basis : Basis = basis_in c.args.basis.now in
    let drafted : Drafted = with_elements c.args.elements.now (insertions_of c.args.draft) in
    let few : length c.args.elements.now ≤ 32 = omega arith in
    let stands : IsRowOf (keys_in c.args.rows.now ++ c.requires.ready.more) c.args.relation.now.target.points c.in-Some.at =
    subst (λ k. IsRowOf (keys_in c.args.rows.now ++ c.requires.ready.more) k c.in-Some.at) c.chars.ensures.value (c.in-Some.ensures _ c.requires.ready.each) in
    refused_variable basis (with_rows c.args.rows.now so_far) n c.args.relation.now drafted
    (gives ∙ with_draft c.args.elements.now c.args.draft c.in_default.not-AnchorRejected) (sym c.needs_prefix.ensures ∙ c.if-needs_prefix.false)
    (in_limits basis (positions c.args.basis.now.key_rows.now) (with_rows c.args.rows.now so_far) c.args.relation.now drafted c.requires.ready c.in-Some.at stands few)
    (sym (c.holds_implicit_variable.ensures ∙ holds_is c.args.basis.now.variables (elements_of basis.base) c.requires.bounds c.args.elements.now)
    ∙ c.if-holds_implicit_variable.true)

pub returns-else-holds_implicit_variable : goal.returns-else-holds_implicit_variable
returns-else-holds_implicit_variable g c so_far n gives =
    let basis : Basis = basis_in c.args.basis.now in
    let drafted : Drafted = with_elements c.args.elements.now (insertions_of c.args.draft) in
    let few : length c.args.elements.now ≤ 32 = omega arith in
    let stands : IsRowOf (keys_in c.args.rows.now ++ c.requires.ready.more) c.args.relation.now.target.points c.in-Some.at =
    subst (λ k. IsRowOf (keys_in c.args.rows.now ++ c.requires.ready.more) k c.in-Some.at) c.chars.ensures.value (c.in-Some.ensures _ c.requires.ready.each) in
    row_put basis (positions c.args.basis.now.key_rows.now) (with_rows c.args.rows.now so_far) n c.args.relation.now drafted c.requires.ready
    (gives ∙ with_draft c.args.elements.now c.args.draft c.in_default.not-AnchorRejected) (sym c.needs_prefix.ensures ∙ c.if-needs_prefix.false)
    c.in-Some.at stands few
    (sym (c.holds_implicit_variable.ensures ∙ holds_is c.args.basis.now.variables (elements_of basis.base) c.requires.bounds c.args.elements.now)
    ∙ c.if-holds_implicit_variable.false)
