-- A numbered element is of the kind of its draft.
use Rattle.std.proofs.Common.{◌≡◌, ◌≢◌, ◌⊎◌, inl, inr, ℕ, ◌<◌, ◌≤◌, List, ap, ◌∙◌, arith}
use Rattle.uca_weights.specs.declared.Element.{Element}
use Rattle.uca_weights.specs.declared.Level.{Level}
use Rattle.uca_weights.specs.declared.Level.TheVariants.{One, Two, Three}
use Rattle.uca_weights.specs.Kinds.{IsPrimaryElement, IsSecondaryElement, IsTertiaryElement, IsContinuation}
use Rattle.uca_values.specs.Content.{TableContent, Properties}
use Rattle.uca_check.specs.WellFormed.{HasGap, IsLead}
use Rattle.uca_relations.specs.declared.Relation.{Relation}
use Rattle.uca_plans.specs.declared.drafts.DraftWeight.{DraftWeight}
use Rattle.uca_plans.specs.declared.drafts.DraftWeight.TheVariants.{Base, New}
use Rattle.uca_plans.specs.declared.drafts.DraftElement.{DraftElement}
use Rattle.uca_plans.specs.ListLaws.{IsAmong}
use Rattle.uca_plans.specs.Plans.{Plan, numbered}
use Rattle.uca_plans.proofs.DraftKinds.{IsZero, IsHigh, IsDraftContinuation, HasDraftGap, zero_or_not}
use Rattle.uca_plans.proofs.DraftGaps.{IsLeadWeight}
use Rattle.uca_plans.proofs.PlanHolds.{IsListed}
use Rattle.uca_acceptance.proofs.PlanCase.{IsCase, plans_in}
use Rattle.uca_acceptance.proofs.LevelImages.{members_in, number_of, number_positive, zero_number, high_number}
use Rattle.uca_acceptance.proofs.WellWeights.{IsPrimaryDraft, IsSecondaryDraft, IsTertiaryDraft}

module _ (base : TableContent) (properties : Properties) (relations : List Relation) (plan : Plan) (case : IsCase base properties relations plan) where
  -- the number of a weight
  abbrev pub number : Level → DraftWeight → ℕ
  number level w = number_of base properties relations plan case level w

  -- the list of a level
  abbrev pub members : Level → List DraftWeight
  members level = members_in base properties relations plan case level

  -- the numbered element
  abbrev pub made : DraftElement → Element
  made e = numbered (plans_in base properties relations plan case) e

  -- its weights are listed
  abbrev pub IsListedIn : DraftElement → Type 0
  IsListedIn e = IsListed (members One) (members Two) (members Three) e

  -- ---- Weights

  -- the number of no weight is 0
  pub zero_is : (level : Level) (w : DraftWeight) → IsZero w → number level w ≡ 0
  zero_is level w none = ap (number level) none ∙ zero_number base properties relations plan case level

  -- so a weight with another number is some
  pub some_draft : (level : Level) (w : DraftWeight) → number level w ≢ 0 → IsZero w → ⊥
  some_draft level w some none = some (zero_is level w none)

  -- a listed weight that is some has another number
  pub listed_some : (level : Level) (w : DraftWeight) → IsZero w ⊎ IsAmong (members level) w → (IsZero w → ⊥) → 0 < number level w
  listed_some level w (inl none) some = absurd (some none)
  listed_some level w (inr among) some = number_positive base properties relations plan case level w among some

  -- a primary from 8000 up stays so
  pub high_is : (w : DraftWeight) → IsHigh w → 0x8000 ≤ number One w
  high_is (Base w) high = omega (arith, high, high_number base properties relations plan case w high)
  high_is (New n) high = absurd high

  -- a primary that is some has another number than 0
  pub primary_some : (w : DraftWeight) → IsZero w ⊎ (IsAmong (members One) w ⊎ IsHigh w) → (IsZero w → ⊥) → 0 < number One w
  primary_some w (inl none) some = absurd (some none)
  primary_some w (inr (inl among)) some = number_positive base properties relations plan case One w among some
  primary_some w (inr (inr high)) some = omega (arith, high_is w high)

  -- a primary of a lead stays
  lead_is : (w : DraftWeight) → IsLeadWeight w → (0xFB00 ≤ number One w) × (number One w ≤ 0xFBFF)
  lead_is (Base w) lead =
      let same = high_number base properties relations plan case w (omega (arith, lead.0)) in
      (omega (arith, same, lead.0), omega (arith, same, lead.1))
  lead_is (New n) lead = absurd lead

  -- ---- Elements

  -- where an element has no primary, its draft has none
  pub no_primary : (e : DraftElement) → IsListedIn e → (made e).primary ≡ 0 → IsZero e.primary
  no_primary e listed none = elim (zero_or_not e.primary) [
    | inl is ↦ is.1
    | inr some ↦ absurd (omega (arith, none, primary_some e.primary listed.primary some.1))
  ]

  -- and so at level 2
  pub no_secondary : (e : DraftElement) → IsListedIn e → (made e).secondary ≡ 0 → IsZero e.secondary
  no_secondary e listed none = elim (zero_or_not e.secondary) [
    | inl is ↦ is.1
    | inr some ↦ absurd (omega (arith, none, listed_some Two e.secondary listed.secondary some.1))
  ]

  -- and so at level 3
  pub no_tertiary : (e : DraftElement) → IsListedIn e → (made e).tertiary ≡ 0 → IsZero e.tertiary
  no_tertiary e listed none = elim (zero_or_not e.tertiary) [
    | inl is ↦ is.1
    | inr some ↦ absurd (omega (arith, none, listed_some Three e.tertiary listed.tertiary some.1))
  ]

  -- a primary element has a primary draft
  pub primary_draft : (e : DraftElement) → IsPrimaryElement (made e) → IsPrimaryDraft e
  primary_draft e is = some_draft One e.primary is

  -- a secondary element has a secondary one
  pub secondary_draft : (e : DraftElement) → IsListedIn e → IsSecondaryElement (made e) → IsSecondaryDraft e
  secondary_draft e listed is = (no_primary e listed is.0, some_draft Two e.secondary is.1)

  -- and a tertiary element has a tertiary one
  pub tertiary_draft : (e : DraftElement) → IsListedIn e → IsTertiaryElement (made e) → IsTertiaryDraft e
  tertiary_draft e listed is = (no_primary e listed is.0, no_secondary e listed is.1, some_draft Three e.tertiary is.2)

  -- an element with a gap has a draft with one
  pub gap_draft : (e : DraftElement) → IsListedIn e → HasGap (made e) → HasDraftGap e
  gap_draft e listed (inl gap) = inl (some_draft One e.primary gap.0, no_secondary e listed gap.1)
  gap_draft e listed (inr gap) = inr (some_draft Two e.secondary gap.0, no_tertiary e listed gap.1)

  -- the draft of a continuation makes one
  pub made_continuation : (e : DraftElement) → IsListedIn e → IsDraftContinuation e → IsContinuation (made e)
  made_continuation e listed is =
      let some = primary_some e.primary listed.primary is.0 in
      ((λ none. omega (arith, some, none)), zero_is Two e.secondary is.1, zero_is Three e.tertiary is.2)

  -- and that of a lead makes one
  pub made_lead : (e : DraftElement) → IsListedIn e → IsLeadWeight e.primary → (IsZero e.secondary → ⊥) → (IsZero e.tertiary → ⊥) → IsLead (made e)
  made_lead e listed lead second third =
      let bounds = lead_is e.primary lead in
      let some_second = listed_some Two e.secondary listed.secondary second in
      let some_third = listed_some Three e.tertiary listed.tertiary third in
      record {
        low = bounds.0;
        high = bounds.1;
        secondary = λ none. omega (arith, some_second, none);
        tertiary = λ none. omega (arith, some_third, none);
      }
