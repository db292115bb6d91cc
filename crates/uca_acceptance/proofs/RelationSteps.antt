-- The steps of a plan before and after one relation, and what of a step is still there at the end.
use Rattle.std.proofs.Common.{◌≡◌, ℕ, suc, ◌+◌, List, [], ◌∷◌, ◌++◌, length, Some, inl, inr, refl, sym, ap, ◌∙◌, subst, arith, append_assoc}
use Rattle.uca_weights.proofs.Lists.{inside}
use Rattle.uca_text.specs.Texts.{NfdText}
use Rattle.uca_relations.specs.declared.Relation.{Relation}
use Rattle.uca_relations.specs.Relations.{IsTarget, IsRuleText, HasRuleTexts, AreDistinct, AreRules}
use Rattle.uca_tailorings.proofs.UntouchedTexts.{no_target}
use Rattle.uca_plans.specs.declared.drafts.DraftElement.{DraftElement}
use Rattle.uca_plans.specs.Drafts.{DraftRow, draft_at, draft_elements}
use Rattle.uca_plans.specs.Keys.{IsTextOf}
use Rattle.uca_plans.specs.Plans.{Basis, Drafting, begun}
use Rattle.uca_plans.proofs.PlanSteps.{target_row, IsStep, AreSteps}
use Rattle.uca_plans.proofs.KeyPlaces.{one_more_row}
use Rattle.uca_plans.proofs.DraftReading.{read_by_what_occurs, read_of_key}
use Rattle.uca_plans.proofs.SameReading.{target_or_not, text_used, text_of_rules}
use Rattle.uca_tailorings.proofs.TailoredWeights.{target_in_first}

-- ---- Targets

-- a target is that of one of the relations
target_split : (relations : List Relation) (key : List ℕ) → IsTarget relations key
    → (front : List Relation) × (s : Relation) × (rest : List Relation) × (relations ≡ front ++ s ∷ rest) × (s.target.points ≡ key)
target_split [] key target = absurd target
target_split (r ∷ relations) key (inl here) = ([], r, relations, refl, here)
target_split (r ∷ relations) key (inr later) =
    let found = target_split relations key later in
    (r ∷ found.0, found.1, found.2, ap (λ xs. r ∷ xs) found.3, found.4)

-- where no two relations have the same target, a target of the first ones is none of the others
pub targets_apart : (before after : List Relation) (key : List ℕ) → AreDistinct (before ++ after) → IsTarget before key → IsTarget after key → ⊥
targets_apart before after key distinct first second =
    let found = target_split after key second in
    let whole : before ++ after ≡ (before ++ found.0) ++ found.1 ∷ found.2 =
    ap (λ xs. before ++ xs) found.3 ∙ sym (append_assoc before found.0 (found.1 ∷ found.2)) in
    distinct (before ++ found.0) found.2 found.1 whole
    (target_in_first before found.0 found.1.target.points (subst (IsTarget before) (sym found.4) first))

-- ---- Steps

module _ (basis : Basis) where
  -- the drafts before and after one relation, which comes after `place` others
  pub record IsStepAt (before : List Relation) (r : Relation) (after : List Relation) (start final : Drafting) : Type 0 where
    pub here : Drafting
    pub next : Drafting
    pub ahead : AreSteps basis 0 before start here
    pub step : IsStep basis (length before) r here next
    pub behind : AreSteps basis (length before + 1) after next final

  -- the drafts before and after one relation, which comes after n relations and after those of `before`
  record IsCutAt (n : ℕ) (before : List Relation) (r : Relation) (after : List Relation) (start final : Drafting) : Type 0 where
    pub here : Drafting
    pub next : Drafting
    pub ahead : AreSteps basis n before start here
    pub step : IsStep basis (n + length before) r here next
    pub behind : AreSteps basis (n + length before + 1) after next final

  -- steps from any drafts are cut at a relation
  cut_at : (n : ℕ) (before : List Relation) (r : Relation) (after : List Relation) (start final : Drafting) →
      AreSteps basis n (before ++ r ∷ after) start final → IsCutAt n before r after start final
  cut_at n [] r after start final steps =
      let place : n ≡ n + 0 = omega arith in
      record {
        here = start;
        next = steps.0;
        ahead = refl;
        step = subst (λ k. IsStep basis k r start steps.0) place steps.1;
        behind = subst (λ k. AreSteps basis (k + 1) after steps.0 final) place steps.2;
      }
  cut_at n (s ∷ before) r after start final steps =
      let rest = cut_at (n + 1) before r after steps.0 final steps.2 in
      let place : (n + 1) + length before ≡ n + suc (length before) = omega arith in
      record {
        here = rest.here;
        next = rest.next;
        ahead = (steps.0, steps.1, rest.ahead);
        step = subst (λ k. IsStep basis k r rest.here rest.next) place rest.step;
        behind = subst (λ k. AreSteps basis (k + 1) after rest.next final) place rest.behind;
      }

  -- steps are cut at a relation
  pub step_at : (before : List Relation) (r : Relation) (after : List Relation) (start final : Drafting) →
      AreSteps basis 0 (before ++ r ∷ after) start final → IsStepAt before r after start final
  step_at before r after start final steps =
      let cut = cut_at 0 before r after start final steps in
      let place : 0 + length before ≡ length before = omega arith in
      record {
        here = cut.here;
        next = cut.next;
        ahead = cut.ahead;
        step = subst (λ k. IsStep basis k r cut.here cut.next) place cut.step;
        behind = subst (λ k. AreSteps basis (k + 1) after cut.next final) place cut.behind;
      }

  -- a key that is no target of some relations keeps its row over their steps
  pub row_kept : (n : ℕ) (relations : List Relation) (a b : Drafting) (key : List ℕ) → AreSteps basis n relations a b → (IsTarget relations key → ⊥) →
      draft_at b.rows key ≡ draft_at a.rows key
  row_kept n [] a b key steps none = ap (λ (d : Drafting). draft_at d.rows key) (sym steps)
  row_kept n (r ∷ relations) a b key steps none =
      row_kept (n + 1) relations steps.0 b key steps.2 (λ later. none (inr later))
      ∙ ap (λ (rows : List DraftRow). draft_at rows key) steps.1.rows
      ∙ (one_more_row (target_row r steps.1.new) a.rows).others key (λ same. none (inl (sym same)))

  -- after a step its target has the elements that it gives
  row_made : (n : ℕ) (r : Relation) (a b : Drafting) (step : IsStep basis n r a b) → draft_at b.rows r.target.points ≡ Some step.new.elements
  row_made n r a b step =
      ap (λ (rows : List DraftRow). draft_at rows r.target.points) step.rows ∙ (one_more_row (target_row r step.new) a.rows).its_own

  -- after steps each of their targets has a row
  row_there : (n : ℕ) (relations : List Relation) (a b : Drafting) (key : List ℕ) → AreSteps basis n relations a b → IsTarget relations key →
      (row : List DraftElement) × (draft_at b.rows key ≡ Some row)
  row_there n [] a b key steps target = absurd target
  row_there n (r ∷ relations) a b key steps target = elim (target_or_not relations key) [
    | inl later ↦ row_there (n + 1) relations steps.0 b key steps.2 later
    | inr none ↦ (steps.1.new.elements, row_kept (n + 1) relations steps.0 b key steps.2 none ∙ made target none)
  ]
    where
      -- it is the first relation's
      made : IsTarget (r ∷ relations) key → (IsTarget relations key → ⊥) → draft_at steps.0.rows key ≡ Some steps.1.new.elements
      made (inl here) none = subst (λ k. draft_at steps.0.rows k ≡ Some steps.1.new.elements) here (row_made n r a steps.0 steps.1)
      made (inr later) none = absurd (none later)

  -- the target of a relation has at the end the row that its step made
  pub target_kept : (before : List Relation) (r : Relation) (after : List Relation) (start final : Drafting) →
      AreRules (before ++ r ∷ after) → (at : IsStepAt before r after start final) → draft_at final.rows r.target.points ≡ Some at.step.new.elements
  target_kept before r after start final rules at =
      row_kept (length before + 1) after at.next final r.target.points at.behind
      (targets_apart (before ++ r ∷ []) after r.target.points (subst AreDistinct (sym (append_assoc before (r ∷ []) after)) rules.distinct)
      (own before))
      ∙ row_made (length before) r at.here at.next at.step
    where
      -- its target is one of those up to it
      own : (relations : List Relation) → IsTarget (relations ++ r ∷ []) r.target.points
      own [] = inl refl
      own (s ∷ relations) = inr (own relations)

  -- the texts of a relation are read at the end as they were at its step
  pub text_kept : (before : List Relation) (r : Relation) (after : List Relation) (final : Drafting) (text : NfdText) →
      AreRules (before ++ r ∷ after) → (at : IsStepAt before r after (begun basis) final) → IsTextOf r text →
      draft_elements basis.ranges basis.properties final.rows text ≡ draft_elements basis.ranges basis.properties at.here.rows text
  text_kept before r after final text rules at is_text = elim (target_or_not before text.points) [
    | inl target ↦
        let row = row_there 0 before (begun basis) at.here text.points at.ahead target in
        let kept = row_kept (length before) (r ∷ after) at.here final text.points later (targets_apart before (r ∷ after) text.points rules.distinct target) in
        read_of_key basis.ranges basis.properties final.rows text row.0 in_rules.normal.accepted.same in_rules.some (kept ∙ row.1)
        ∙ sym (read_of_key basis.ranges basis.properties at.here.rows text row.0 in_rules.normal.accepted.same in_rules.some row.1)
    | inr free ↦
        let untouched = rules.none_late before after r text.points refl (text_used r text is_text) free in
        read_by_what_occurs basis.ranges basis.properties final.rows at.here.rows text
        (λ key occurs. row_kept (length before) (r ∷ after) at.here final key later (no_target (r ∷ after) key text.points untouched occurs))
  ]
    where
      -- its step and those after it
      later : AreSteps basis (length before) (r ∷ after) at.here final
      later = (at.next, at.step, at.behind)

      -- it is a text of rules
      in_rules : IsRuleText text
      in_rules = text_of_rules r text (inside HasRuleTexts before r after rules.texts) is_text
