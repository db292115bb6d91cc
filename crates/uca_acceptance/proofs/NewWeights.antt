-- Plans meet the conditions of an audit on new weights: they are fresh (10) and nearest (11).
use Rattle.std.proofs.Common.{◌≡◌, inl, inr, ℕ, List, [], ◌∷◌, ◌++◌, length, refl, sym, ap, subst, ◌∙◌, arith}
use Rattle.std.proofs.lemmas.List.{append-nil, append_assoc, length-append}
use Rattle.uca_weights.specs.declared.Level.{Level}
use Rattle.uca_weights.specs.declared.Level.TheVariants.{One, Two, Three}
use Rattle.uca_values.specs.Content.{TableContent, Properties}
use Rattle.uca_relations.specs.declared.Relation.{Relation}
use Rattle.uca_tailorings.specs.Placing.{IsLow}
use Rattle.uca_tailorings.specs.Tailorings.{IsNewWeight, IsKnownWeight, IsBetween, IsFreshWeight, IsNearestWeight}
use Rattle.uca_tailorings.specs.declared.conditions.Condition.TheVariants.{NotFresh, NotNearest}
use Rattle.uca_tailorings.proofs.Nearest.{IsHigh, not_high}
use Rattle.uca_plans.specs.declared.drafts.DraftWeight.{DraftWeight}
use Rattle.uca_plans.specs.declared.drafts.DraftWeight.TheVariants.{Base, New}
use Rattle.uca_plans.specs.ListLaws.{IsAmong}
use Rattle.uca_plans.specs.Plans.{Plan}
use Rattle.uca_acceptance.specs.Accepted.{PlansMeet, tailoring_by}
use Rattle.uca_acceptance.proofs.PlanCase.{IsCase, case_of}
use Rattle.uca_acceptance.proofs.LevelImages.{members_in, number_of, one_number}
use Rattle.uca_acceptance.proofs.PlacedTargets.{IsPlacedRelation, placed_relation}
use Rattle.uca_acceptance.proofs.NumberedAnchors.{member_low}
use Rattle.uca_acceptance.proofs.KnownNumbers.{known_number}
use Rattle.uca_acceptance.proofs.PlacesOfNew.{IsPutIn, is_put_in, new_stays, anchor_stays, base_there, earlier_there, none_between, own_number, new_numbers}

-- a low weight is not high
low_not_high : (level : Level) (w : ℕ) → IsLow level w → IsHigh level w → ⊥
low_not_high One w low high = omega (arith, low, high)
low_not_high Two w low high = high
low_not_high Three w low high = high

-- a base weight is not one that a relation puts in
not_new : (v k : ℕ) → Base v ≡ New k → ⊥
not_new v k same = cc

module _ (base : TableContent) (properties : Properties) (relations : List Relation) (plan : Plan) (case : IsCase base properties relations plan)
    (before : List Relation) (r : Relation) (after : List Relation) (split : relations ≡ before ++ r ∷ after) (level : Level)
    (p : IsPlacedRelation base properties relations plan case before r after level) where
  -- the number of a weight
  abbrev number : DraftWeight → ℕ
  number w = number_of base properties relations plan case level w

  -- where the relation's new weight was put in
  put : IsPutIn base properties relations plan case level (length before) r.before p.anchor
  put = is_put_in base properties relations plan case level before r after p

  -- the new weight is a member
  own_member : IsAmong (members_in base properties relations plan case level) (New (length before))
  own_member = new_stays base properties relations plan case level (length before) r.before p.anchor put

  -- and its number is low
  own_low : IsLow level (number (New (length before)))
  own_low = member_low base properties relations plan case level (New (length before)) own_member

  -- it is no known weight
  unknown : (w : ℕ) → w ≡ number (New (length before)) → IsKnownWeight (tailoring_by base properties relations plan) level w → ⊥
  unknown w own known = elim (known_number base properties relations plan case level w known) [
    | inl listed ↦
        not_new listed.from (length before)
        (one_number base properties relations plan case level (Base listed.from) (New (length before)) listed.among own_member (sym listed.number ∙ own))
    | inr high ↦ low_not_high level w (subst (IsLow level) (sym own) own_low) high
  ]

  -- it is the number of no other position
  one_place : (w k : ℕ) → w ≡ number (New (length before)) → IsAmong (members_in base properties relations plan case level) (New k)
      → w ≡ number (New k) → k ≡ length before
  one_place w k own among also =
      let same = one_number base properties relations plan case level (New k) (New (length before)) among own_member (sym also ∙ own) in cc

  -- it is no new weight of an earlier relation
  not_before : (w : ℕ) → w ≡ number (New (length before)) → IsNewWeight (tailoring_by base properties relations plan) level w before → ⊥
  not_before w own new =
      let is = new_numbers base properties relations plan case level w [] before (r ∷ after) split new in
      let same = one_place w is.place own is.among is.number in
      let end = is.before_end in
      omega (arith, same, end)

  -- nor of a later one
  not_after : (w : ℕ) → w ≡ number (New (length before)) → IsNewWeight (tailoring_by base properties relations plan) level w after → ⊥
  not_after w own new =
      let whole : relations ≡ (before ++ r ∷ []) ++ (after ++ []) =
      split ∙ sym (append_assoc before (r ∷ []) after) ∙ ap (λ rest. (before ++ r ∷ []) ++ rest) (sym (append-nil after)) in
      let is = new_numbers base properties relations plan case level w (before ++ r ∷ []) after [] whole new in
      let same = one_place w is.place own is.among is.number in
      let least = is.from_least in
      let long = length-append before (r ∷ []) in
      omega (arith, same, least, long)

  -- the new weight is fresh
  fresh : IsFreshWeight (tailoring_by base properties relations plan) before after level (number (New (length before)))
  fresh = record {
    unknown = unknown (number (New (length before))) refl;
    own_before = not_before (number (New (length before))) refl;
    own_after = not_after (number (New (length before))) refl;
    low = own_low;
  }

  -- no known weight lies between it and the anchor's
  none_known : (w : ℕ) → IsKnownWeight (tailoring_by base properties relations plan) level w
      → IsBetween (number p.anchor) (number (New (length before))) w → ⊥
  none_known w known between = elim (known_number base properties relations plan case level w known) [
    | inl listed ↦
        none_between base properties relations plan case level (length before) r.before p.anchor put (Base listed.from)
        (base_there base properties relations plan case level (length before) r.before p.anchor put listed.from listed.among)
        (subst (IsBetween (number p.anchor) (number (New (length before)))) listed.number between)
    | inr high ↦
        not_high level (number p.anchor) (number (New (length before))) w
        (member_low base properties relations plan case level p.anchor
        (anchor_stays base properties relations plan case level (length before) r.before p.anchor put))
        own_low high between
  ]

  -- nor that of an earlier relation
  none_earlier : (w : ℕ) → IsNewWeight (tailoring_by base properties relations plan) level w before
      → IsBetween (number p.anchor) (number (New (length before))) w → ⊥
  none_earlier w new between =
      let is = new_numbers base properties relations plan case level w [] before (r ∷ after) split new in
      let end = is.before_end in
      none_between base properties relations plan case level (length before) r.before p.anchor put (New is.place)
      (earlier_there base properties relations plan case level (length before) r.before p.anchor put is.place (omega (arith, end))
      is.among)
      (subst (IsBetween (number p.anchor) (number (New (length before)))) is.number between)

  -- so it is nearest
  nearest : IsNearestWeight (tailoring_by base properties relations plan) before level (number p.anchor) (number (New (length before)))
  nearest = record { known = none_known; earlier = none_earlier }

-- the new weight of each relation is fresh
pub meets_not_fresh : PlansMeet NotFresh
meets_not_fresh base properties relations plan is before r after split level old new at =
    let case = case_of base properties relations plan is in
    let p = placed_relation base properties relations plan case before r after level split at.strength in
    subst (IsFreshWeight (tailoring_by base properties relations plan) before after level)
    (sym (own_number base properties relations plan case level before r after p old new at).1)
    (fresh base properties relations plan case before r after split level p)

-- and nearest its anchor's
pub meets_not_nearest : PlansMeet NotNearest
meets_not_nearest base properties relations plan is before r after split level old new at =
    let case = case_of base properties relations plan is in
    let p = placed_relation base properties relations plan case before r after level split at.strength in
    let numbers = own_number base properties relations plan case level before r after p old new at in
    rw (numbers.0, numbers.1) (nearest base properties relations plan case before r after split level p)
