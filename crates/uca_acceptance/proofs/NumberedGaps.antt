-- Numbered rows have no gaps where their drafts have none.
use Rattle.std.proofs.Common.{◌≡◌, ◌⊎◌, inl, inr, List, [], ◌∷◌, ◌++◌, map, Option, Some, None, refl, sym, ap, subst}
use Rattle.std.specs.List.{AllByRecursion}
use Rattle.uca_weights.specs.declared.Element.{Element}
use Rattle.uca_weights.specs.Kinds.{IsContinuation}
use Rattle.uca_values.specs.Content.{TableContent, Properties}
use Rattle.uca_check.specs.WellFormed.{HasGap, EndsWithLead, MeetsWF1}
use Rattle.uca_relations.specs.declared.Relation.{Relation}
use Rattle.uca_plans.specs.declared.drafts.DraftElement.{DraftElement}
use Rattle.uca_plans.specs.Drafts.{DraftRow}
use Rattle.uca_plans.specs.Plans.{Plan, numbered_row}
use Rattle.uca_plans.proofs.DraftGaps.{IsDraftLead, HasNoGaps}
use Rattle.uca_acceptance.proofs.PlanCase.{IsCase, plans_in}
use Rattle.uca_acceptance.proofs.NumberedKinds as kinds

module _ (base : TableContent) (properties : Properties) (relations : List Relation) (plan : Plan) (case : IsCase base properties relations plan) where
  -- the numbered element
  abbrev made : DraftElement → Element
  made e = kinds.made base properties relations plan case e

  -- whether a draft's weights are listed
  abbrev IsListedIn : DraftElement → Type 0
  IsListedIn e = kinds.IsListedIn base properties relations plan case e

  -- elements end with a lead, or there are none and the draft before them is one
  abbrev FollowsLead : Option DraftElement → List Element → Type 0
  FollowsLead last before = EndsWithLead before ⊎ ((before ≡ []) × IsDraftLead last)

  -- with one more element in front
  follows_more : (last : Option DraftElement) (d : DraftElement) (before : List Element) → IsListedIn d → FollowsLead (Some d) before
      → FollowsLead last (made d ∷ before)
  follows_more last d before listed (inl ends) = inl (made d ∷ ends.0, ends.1, ap (λ es. made d ∷ es) ends.2, ends.3)
  follows_more last d before listed (inr alone) =
      let lead = kinds.made_lead base properties relations plan case d listed alone.1.0 alone.1.1 alone.1.2 in
      inl ([], made d, ap (λ es. made d ∷ es) alone.0, lead)

  -- after a draft, or none, only a continuation directly after a lead has a gap
  gapless_after : (last : Option DraftElement) (es : List DraftElement) → AllByRecursion IsListedIn es → HasNoGaps last es
      → (before : List Element) (e : Element) (after : List Element) → map made es ≡ before ++ e ∷ after → HasGap e
      → IsContinuation e × FollowsLead last before
  gapless_after last [] listed whole [] e after parts gap = absurd (cc)
  gapless_after last [] listed whole (b ∷ before) e after parts gap = absurd (cc)
  gapless_after last (d ∷ es) listed whole [] e after parts gap =
      let same : made d ≡ e = cc in
      let found = whole.0 (kinds.gap_draft base properties relations plan case d listed.0 (subst HasGap (sym same) gap)) in
      (subst IsContinuation same (kinds.made_continuation base properties relations plan case d listed.0 found.0), inr (refl, found.1))
  gapless_after last (d ∷ es) listed whole (b ∷ before) e after parts gap =
      let same : made d ≡ b = cc in
      let rest : map made es ≡ before ++ e ∷ after = cc in
      let later = gapless_after (Some d) es listed.1 whole.1 before e after rest gap in
      (later.0, subst (λ x. FollowsLead last (x ∷ before)) same (follows_more last d before listed.0 later.1))

  -- so a row of listed elements without gaps meets WF1
  gapless_row : (row : DraftRow) → AllByRecursion IsListedIn row.elements → HasNoGaps None row.elements
      → MeetsWF1 (numbered_row (plans_in base properties relations plan case) row)
  gapless_row row listed whole = record {
    gaps = λ before e after parts gap.
        let found = gapless_after None row.elements listed whole before e after parts gap in (found.0, at_first before found.1);
  }
    where
      -- there is no lead before the first element
      at_first : (before : List Element) → FollowsLead None before → EndsWithLead before
      at_first before (inl ends) = ends
      at_first before (inr alone) = absurd alone.1

  -- and so do all such rows
  pub gapless_rows : (rows : List DraftRow) → AllByRecursion (λ row. AllByRecursion IsListedIn row.elements) rows
      → AllByRecursion (λ row. HasNoGaps None row.elements) rows
      → AllByRecursion MeetsWF1 (map (numbered_row (plans_in base properties relations plan case)) rows)
  gapless_rows [] listed whole = tt
  gapless_rows (row ∷ rows) listed whole = (gapless_row row listed.0 whole.0, gapless_rows rows listed.1 whole.1)
