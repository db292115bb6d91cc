-- Drafts without gaps: only a continuation directly after a lead has one.
use Rattle.std.proofs.Common.{◌≡◌, ◌⊎◌, inl, inr, ℕ, ◌+◌, ◌<◌, ◌≤◌, true, false, List, [], ◌∷◌, ◌++◌, map, Option, Some, None, refl, sym, ap, ◌∙◌}
use Rattle.std.proofs.Common.{arith, subst, append_assoc}
use Rattle.std.specs.Bool.{⊤}
use Rattle.uca_weights.specs.declared.Element.{Element}
use Rattle.uca_weights.specs.declared.Level.{Level}
use Rattle.uca_weights.specs.Kinds.{IsContinuation}
use Rattle.uca_values.specs.Content.{Entry}
use Rattle.uca_values.specs.Implicit.{implicit_pair}
use Rattle.uca_check.specs.WellFormed.{HasGap, IsLead, EndsWithLead, MeetsWF1}
use Rattle.uca_plans.specs.declared.drafts.DraftWeight.{DraftWeight}
use Rattle.uca_plans.specs.declared.drafts.DraftWeight.TheVariants.{Base, New}
use Rattle.uca_plans.specs.declared.drafts.DraftElement.{DraftElement}
use Rattle.uca_plans.specs.Drafts.{as_draft, draft_weight, takes_no_weight, AnchorPart, reweighted}
use Rattle.uca_plans.proofs.DraftKinds.{IsZero, IsDraftContinuation, HasDraftGap, IsAnchorPart, not_ignorable_weight, reweighted_whole, accepted_no_continuation}

-- a primary from FB00 to FBFF
abbrev pub IsLeadWeight : DraftWeight → Type 0
IsLeadWeight (Base w) = (0xFB00 ≤ w) × (w ≤ 0xFBFF)
IsLeadWeight (New _) = ⊥

-- an element that a continuation may follow
abbrev pub IsDraftLead : Option DraftElement → Type 0
IsDraftLead None = ⊥
IsDraftLead (Some e) = IsLeadWeight e.primary × (IsZero e.secondary → ⊥) × (IsZero e.tertiary → ⊥)

-- after an element, or none, only a continuation directly after a lead has a gap
abbrev pub HasNoGaps : Option DraftElement → List DraftElement → Type 0
HasNoGaps before [] = ⊤
HasNoGaps before (e ∷ es) = (HasDraftGap e → IsDraftContinuation e × IsDraftLead before) × HasNoGaps (Some e) es

-- ---- Lists put together

-- what has no gaps has none after any element
pub gaps_after : (before : Option DraftElement) (es : List DraftElement) → HasNoGaps None es → HasNoGaps before es
gaps_after before [] whole = tt
gaps_after before (e ∷ es) whole = (λ gap. absurd (whole.0 gap).1, whole.1)

-- two lists without gaps have none together
pub gaps_joined : (before : Option DraftElement) (es fs : List DraftElement) → HasNoGaps before es → HasNoGaps None fs → HasNoGaps before (es ++ fs)
gaps_joined before [] fs first second = gaps_after before fs second
gaps_joined before (e ∷ es) fs first second = (first.0, gaps_joined (Some e) es fs first.1 second)

-- in a list without gaps an element that is no continuation has no gap
pub whole_in : (before : Option DraftElement) (front : List DraftElement) (e : DraftElement) (es : List DraftElement)
    → HasNoGaps before (front ++ e ∷ es)
    → (IsDraftContinuation e → ⊥) → HasDraftGap e → ⊥
whole_in before [] e es whole none gap = none (whole.0 gap).0
whole_in before (f ∷ front) e es whole none gap = whole_in (Some f) front e es whole.1 none gap

-- an element without a gap and a list without gaps instead of the rest
pub gaps_replaced : (before : Option DraftElement) (front : List DraftElement) (e f : DraftElement) (es fs : List DraftElement)
    → HasNoGaps before (front ++ e ∷ es)
    → (HasDraftGap f → ⊥) → HasNoGaps None fs → HasNoGaps before (front ++ f ∷ fs)
gaps_replaced before [] e f es fs whole none second = (λ gap. absurd (none gap), gaps_after (Some f) fs second)
gaps_replaced before (x ∷ front) e f es fs whole none second = (whole.0, gaps_replaced (Some x) front e f es fs whole.1 none second)

-- the last element of an accepted part has no gap
pub part_whole : (level : Level) (es : List DraftElement) (part : AnchorPart) → HasNoGaps None es → IsAnchorPart level es part
    → takes_no_weight level part.last ≡ false → HasDraftGap part.last → ⊥
part_whole level es part whole found accepted =
    whole_in None part.front part.last found.trailing (subst (HasNoGaps None) found.split whole) (accepted_no_continuation level part.last accepted)

-- and a weight at the level
pub part_not_ignorable : (level : Level) (es : List DraftElement) (part : AnchorPart) → HasNoGaps None es → IsAnchorPart level es part
    → takes_no_weight level part.last ≡ false → IsZero (draft_weight level part.last) → ⊥
part_not_ignorable level es part whole found accepted = not_ignorable_weight level part.last found.not_ignorable (part_whole level es part whole found accepted)

-- a target's elements have no gaps
pub placed_gapless : (level : Level) (n : ℕ) (es expansion : List DraftElement) (part : AnchorPart) → HasNoGaps None es → HasNoGaps None expansion
    → IsAnchorPart level es part → takes_no_weight level part.last ≡ false → HasNoGaps None (part.front ++ reweighted level (New n) part.last ∷ expansion)
placed_gapless level n es expansion part first second found accepted =
    gaps_replaced None part.front part.last (reweighted level (New n) part.last) found.trailing expansion (subst (HasNoGaps None) found.split first)
    (reweighted_whole level n part.last (part_whole level es part first found accepted) (part_not_ignorable level es part first found accepted)) second

-- ---- Rows and pairs

-- a base weight that is none is 0
pub base_zero : (w : ℕ) → IsZero (Base w) → w ≡ 0
base_zero w none = cc

-- an element as a draft has a gap where it has one
draft_gap : (e : Element) → HasDraftGap (as_draft false e) → HasGap e
draft_gap e (inl gap) = inl ((λ none. gap.0 (ap Base none)), base_zero e.secondary gap.1)
draft_gap e (inr gap) = inr ((λ none. gap.0 (ap Base none)), base_zero e.tertiary gap.1)

-- a continuation as a draft
draft_continuation : (e : Element) → IsContinuation e → IsDraftContinuation (as_draft false e)
draft_continuation e is = ((λ none. is.0 (base_zero e.primary none)), ap Base is.1, ap Base is.2)

-- a lead as a draft
draft_lead : (e : Element) → IsLead e → IsDraftLead (Some (as_draft false e))
draft_lead e is = ((is.low, is.high), (λ none. is.secondary (base_zero e.secondary none)), (λ none. is.tertiary (base_zero e.tertiary none)))

-- the last of some elements, as a draft
last_draft : List Element → Option DraftElement
last_draft [] = None
last_draft (e ∷ []) = Some (as_draft false e)
last_draft (e ∷ f ∷ es) = last_draft (f ∷ es)

-- the last of one element more
last_more : (es : List Element) (e : Element) → last_draft (es ++ e ∷ []) ≡ Some (as_draft false e)
unfolding last_draft
last_more [] e = refl
last_more (f ∷ []) e = refl
last_more (f ∷ g ∷ es) e = last_more (g ∷ es) e

-- elements without gaps after others, as drafts
gapless_from : (done es : List Element)
    → ((before : List Element) (e : Element) (after : List Element) → done ++ es ≡ before ++ e ∷ after → HasGap e → IsContinuation e × EndsWithLead before)
    → HasNoGaps (last_draft done) (map (as_draft false) es)
gapless_from done [] whole = tt
gapless_from done (e ∷ es) whole = (
  λ gap. here (whole done e es refl (draft_gap e gap)),
  subst (λ before. HasNoGaps before (map (as_draft false) es)) (last_more done e)
      (gapless_from (done ++ e ∷ []) es (λ before f after same. whole before f after (sym (append_assoc done (e ∷ []) es) ∙ same))),
)
  where
    -- the lead that it ends with
    here : IsContinuation e × EndsWithLead done → IsDraftContinuation (as_draft false e) × IsDraftLead (last_draft done)
    here both =
        let ends = both.1 in
        let last : last_draft done ≡ Some (as_draft false ends.1) = ap last_draft ends.2 ∙ last_more ends.0 ends.1 in
        (draft_continuation e both.0, subst IsDraftLead (sym last) (draft_lead ends.1 ends.3))

-- a row that meets WF1 has no gaps as a draft
pub base_gapless : (row : Entry) → MeetsWF1 row → HasNoGaps None (map (as_draft false) row.elements)
unfolding last_draft
base_gapless row meets = gapless_from [] row.elements meets.gaps

-- a base weight above 0 is one
base_some : (w : ℕ) → 0 < w → IsZero (Base w) → ⊥
base_some w some none = let same = base_zero w none in omega arith

-- an implicit pair has no gaps
pub pair_gapless : (lead low : ℕ) → 0xFB00 ≤ lead → lead ≤ 0xFBFF → HasNoGaps None (map (as_draft true) (implicit_pair lead low))
pair_gapless lead low above below = (
  λ gap. absurd (first gap),
  ((λ gap. ((base_some (0x8000 + low) (omega arith), refl, refl), ((above, below), base_some 0x20 (omega arith), base_some 2 (omega arith)))), tt),
)
  where
    -- the lead has all three weights
    first : ((IsZero (Base lead) → ⊥) × IsZero (Base 0x20)) ⊎ ((IsZero (Base 0x20) → ⊥) × IsZero (Base 2)) → ⊥
    first (inl gap) = base_some 0x20 (omega arith) gap.1
    first (inr gap) = base_some 2 (omega arith) gap.1
