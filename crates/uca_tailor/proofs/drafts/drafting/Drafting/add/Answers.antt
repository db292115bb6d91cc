-- What the relation gives its target, and the position of its row, or why it is rejected.
use Rattle.std.proofs.Common.{◌≡◌, ◌++◌, ◌∷◌, [], ℕ, List, Option, Result, Ok, Err, inl, refl, sym, ap, subst, ◌∙◌}
use Rattle.std.specs.Prelude.{slice_set}
use Rattle.uca_elements.specs.Positions.{Positions}
use Rattle.uca_match.specs.Tries.{positions}
use Rattle.uca_plans.specs.declared.drafts.DraftElement.{DraftElement}
use Rattle.uca_plans.specs.declared.drafts.DraftWeight.TheVariants.{New}
use Rattle.uca_plans.specs.declared.faults.TailorKind.{TailorKind}
use Rattle.uca_plans.specs.Drafts.{DraftRow}
use Rattle.uca_plans.specs.Plans.{Basis, Drafted, Drafting, drafted}
use Rattle.uca_relations.specs.declared.Relation.{Relation}
use Rattle.uca_tailor.specs.inside.Ready.{basis_in, ArePositionsWith, IsReady, IsRejected, ReadsAlike, TakesRow}
use Rattle.uca_tailor.specs.declared.drafts.targets.TargetDraft.{TargetDraft}
use Rattle.uca_tailor.specs.inside.Targets.{drafted_with}
use Rattle.uca_tailor.proofs.DraftLemmas.DraftingSteps.{drafted_by_rows}
use Rattle.uca_tailor.proofs.drafts.drafting.Drafting.add.Goals as goal

-- Equal rows have equal positions.
placed : (held : Positions) (rows same : List DraftRow) → same ≡ rows → (more : List (List ℕ)) → ArePositionsWith held rows more → (m : List (List ℕ)) × ArePositionsWith held same m
placed held rows same is more each = (more, subst (λ rs. ArePositionsWith held rs more) (sym is) each)

-- what a relation gives its target over the same rows
given : (basis : Basis) (so_far : Drafting) (same : List DraftRow) (n : ℕ) (r : Relation) (found : Option Drafted) → same ≡ so_far.rows
    → found ≡ drafted basis (record { rows = same; insertions = [] }) (New n) r → drafted basis so_far (New n) r ≡ found
given basis so_far same n r found is gives =
    sym (drafted_by_rows basis so_far (New n) r) ∙ ap (λ (rs : List DraftRow). drafted basis (record { rows = rs; insertions = [] }) (New n) r) (sym is) ∙ sym gives

-- over equal rows, equal elements of a target take an equal row
same_row : (basis : Basis) (rows same : List DraftRow) (r : Relation) (draft : TargetDraft) (elements lent : List DraftElement) (result : Result ℕ TailorKind) → same ≡ rows
    → lent ≡ elements → TakesRow basis same r draft lent result → TakesRow basis rows r draft elements result
same_row basis rows same r draft elements lent result is alike takes =
    subst (λ es. TakesRow basis rows r draft es result) alike (subst (λ rs. TakesRow basis rs r draft lent result) is takes)

pub draft_target-requires-clause-keys : goal.draft_target-requires-clause-keys
draft_target-requires-clause-keys g c =
    let rows : c.deref.result.now ≡ c.args.self.now.rows = c.deref.ensures.value ∙ ap (λ (d : Drafting). d.rows) c.self.view_is in
    placed (positions c.args.basis.now.key_rows.now) c.args.self.now.rows c.deref.result.now rows c.requires.ready.more c.requires.ready.each

pub draft_target-requires-clause-alike : goal.draft_target-requires-clause-alike
draft_target-requires-clause-alike g c =
    let rows : c.deref.result.now ≡ c.args.self.now.rows = c.deref.ensures.value ∙ ap (λ (d : Drafting). d.rows) c.self.view_is in
    subst (λ rs. ReadsAlike (basis_in c.args.basis.now) (positions c.args.basis.now.key_rows.now) rs c.args.relation.now) (sym rows) c.requires.ready.alike

pub row_for-requires-clause-ready : goal.row_for-requires-clause-ready
row_for-requires-clause-ready g c =
    let rows : c.deref-2.result.now ≡ c.args.self.now.rows = c.deref-2.ensures.value ∙ ap (λ (d : Drafting). d.rows) c.self.view_is in
    subst (λ rs. IsReady (basis_in c.args.basis.now) (positions c.args.basis.now.key_rows.now) rs c.args.relation.now) (sym rows) c.requires.ready

pub returns-in_ok-put-in-Ok-clause-added : goal.returns-in_ok-put-in-Ok-clause-added
returns-in_ok-put-in-Ok-clause-added g c =
    let self : Drafting = c.args.self.now in
    let basis : Basis = basis_in c.args.basis.now in
    let rows : c.deref.result.now ≡ self.rows = c.deref.ensures.value ∙ ap (λ (d : Drafting). d.rows) c.self.view_is in
    let again : c.deref-2.result.now ≡ self.rows = c.deref-2.ensures.value ∙ ap (λ (d : Drafting). d.rows) c.self.view_is in
    let elements : List DraftElement = c.draft_target.new.elements.items in
    let draft : TargetDraft = c.in_ok-draft.draft in
    same_row basis self.rows c.deref-2.result.now c.args.relation.now draft elements c.deref-3.result.now (Ok c.in-Ok.at) again
    c.deref-3.ensures.value c.in-Ok.ensures self.insertions c.args.index
    (given basis self c.deref.result.now c.args.index c.args.relation.now (drafted_with elements draft) rows c.in_ok-draft.ensures) c.put.new.self
    (λ there. c.in_ok-put-in-Ok.ensures.replaced there ∙ ap (slice_set self.rows c.in-Ok.at) c.of_target-row.ensures)
    (λ past. c.in_ok-put-in-Ok.ensures.after past ∙ ap (λ last. self.rows ++ last ∷ []) c.of_target-row.ensures)
    c.in_ok-put-in-Ok.ensures.insertions

pub returns-in-Err-clause-rejected : goal.returns-in-Err-clause-rejected
returns-in-Err-clause-rejected g c =
    let self : Drafting = c.args.self.now in
    let basis : Basis = basis_in c.args.basis.now in
    let rows : c.deref.result.now ≡ self.rows = c.deref.ensures.value ∙ ap (λ (d : Drafting). d.rows) c.self.view_is in
    let again : c.deref-2.result.now ≡ self.rows = c.deref-2.ensures.value ∙ ap (λ (d : Drafting). d.rows) c.self.view_is in
    let elements : List DraftElement = c.draft_target.new.elements.items in
    let draft : TargetDraft = c.in_ok-draft.draft in
    subst (IsRejected basis self c.args.index c.args.relation.now) (sym c.rejected.ensures)
    (inl (
      same_row basis self.rows c.deref-2.result.now c.args.relation.now draft elements c.deref-3.result.now (Err c.in-Err.kind) again
          c.deref-3.ensures.value c.in-Err.ensures self.insertions c.args.index
          (given basis self c.deref.result.now c.args.index c.args.relation.now (drafted_with elements draft) rows c.in_ok-draft.ensures),
      refl,
    ))
