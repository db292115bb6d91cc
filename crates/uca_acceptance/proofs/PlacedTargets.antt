-- Plans meet the conditions of an audit on anchors and on where targets are placed: 8 and 9.
use Rattle.std.proofs.Common.{◌≡◌, ℕ, ◌+◌, List, [], ◌++◌, ◌∷◌, length, map, Option, Some, None}
use Rattle.std.proofs.Common.{inl, inr, refl, sym, ap, ap₂, ◌∙◌, subst, arith}
use Rattle.std.proofs.lemmas.List.{map-append}
use Rattle.uca_weights.specs.declared.Element.{Element}
use Rattle.uca_weights.specs.declared.Level.{Level}
use Rattle.uca_weights.specs.Levels.{level_of}
use Rattle.uca_values.specs.Content.{TableContent, Properties}
use Rattle.uca_relations.specs.declared.Relation.{Relation}
use Rattle.uca_tailorings.specs.Placing as placing
use Rattle.uca_tailorings.specs.Placing.{IsLow, IsAnchor, IsOnSide}
use Rattle.uca_tailorings.specs.declared.conditions.Condition.TheVariants.{Anchor, NotPlaced}
use Rattle.uca_tailorings.specs.Tailorings.{anchor_elements, expansion_elements, IsTargetRow, HasAnchor, HasAnchorAt, IsPlacedAt, IsPlaced, IsPlacedBy}
use Rattle.uca_tailorings.proofs.Parts.{each_by_parts}
use Rattle.uca_plans.specs.declared.drafts.DraftWeight.{DraftWeight}
use Rattle.uca_plans.specs.declared.drafts.DraftWeight.TheVariants.{New}
use Rattle.uca_plans.specs.Drafts.{AnchorPart, draft_weight, reweighted}
use Rattle.uca_plans.specs.declared.drafts.Insertion.{Insertion}
use Rattle.uca_plans.specs.ListLaws.{IsAmong, StandsBefore, StandsBeside}
use Rattle.uca_plans.specs.Plans.{Plan, Drafting, Drafted, drafted_at, draft_expansion, begun}
use Rattle.uca_plans.specs.Tailors.{basis_of}
use Rattle.uca_plans.proofs.InsertionLemmas.{stands_nearest}
use Rattle.uca_plans.proofs.PlanSteps.{IsStep}
use Rattle.uca_plans.proofs.PlanLists.{list_at, good_step, good_steps}
use Rattle.uca_plans.proofs.DraftKinds.{IsAnchorPart, accepted_no_continuation, joined_is}
use Rattle.uca_plans.proofs.PlanHolds.{Holds}
use Rattle.uca_plans.proofs.PlanCarried.{anchor_at, IsPlacedStep, placed_list, placed_step}
use Rattle.uca_acceptance.specs.Accepted.{PlansMeet, tailoring_by}
use Rattle.uca_acceptance.proofs.PlanCase.{IsCase, case_of}
use Rattle.uca_acceptance.proofs.LevelImages.{members_in, number_of, number_less}
use Rattle.uca_acceptance.proofs.TailoredReading.{value}
use Rattle.uca_acceptance.proofs.RelationSteps.{IsStepAt}
use Rattle.uca_acceptance.proofs.NumberedKinds.{IsListedIn}
use Rattle.uca_acceptance.proofs.NumberedAnchors.{weight_number, member_low, all_ignorable, not_ignorable_stays, no_continuation, reweighted_number}
use Rattle.uca_acceptance.proofs.RelationReadings.{texts_in, step_in, holds_before, grown_since, held_listed, anchor_read, expansion_read, row_read}

-- ---- The step at a level

module _ (base : TableContent) (properties : Properties) (relations : List Relation) (plan : Plan) (case : IsCase base properties relations plan)
    (before : List Relation) (r : Relation) (after : List Relation) (split : relations ≡ before ++ r ∷ after)
    (level : Level) (strength : level_of r.strength ≡ Some level) where
  -- the drafts before the step
  abbrev here : Drafting
  here = (step_in base properties relations plan case before r after split).here

  -- the drafts after it
  abbrev next : Drafting
  next = (step_in base properties relations plan case before r after split).next

  -- the step
  abbrev step : IsStep (basis_of base properties) (length before) r here next
  step = (step_in base properties relations plan case before r after split).step

  -- what is true of the drafts before it
  abbrev holds : Holds (basis_of base properties) (length before) here
  holds = holds_before base properties relations plan case before r after split

  -- it is placed
  step_placed : IsPlacedStep (basis_of base properties) (length before) r here next holds step level
  step_placed =
      placed_step (basis_of base properties) (length before) r here next holds case.table.header.ranges
      (texts_in base properties relations plan case before r after split) step level
      (subst (λ o. drafted_at o r.before (New (length before)) (anchor_at (basis_of base properties) here r)
      (draft_expansion (basis_of base properties) here r.expansion) ≡ Some step.new) strength step.is_drafted)

  -- the anchor's part
  abbrev part : AnchorPart
  part = step_placed.placed.part

  -- the anchor is this part, and ignorable elements after it
  abbrev found : IsAnchorPart level (anchor_at (basis_of base properties) here r) part
  found = step_placed.placed.found

  -- the weights of the part's last element are listed
  last_listed : IsListedIn base properties relations plan case part.last
  last_listed = held_listed base properties relations plan case before r after split part.last step_placed.last_held

  -- where the new weight goes
  abbrev insertion : Insertion
  insertion = record { level = level; before = r.before; anchor = draft_weight level part.last; new = New (length before) }

  -- the step puts it in there
  insertions_are : step.new.insertions ≡ insertion ∷ []
  insertions_are = ap (λ (d : Drafted). d.insertions) step_placed.placed.is

  -- ---- The order of the two weights

  -- the number of the anchor's weight
  abbrev old_number : ℕ
  old_number = number_of base properties relations plan case level (draft_weight level part.last)

  -- the number of the new weight
  abbrev new_number : ℕ
  new_number = number_of base properties relations plan case level (New (length before))

  -- the anchor's weight is in the plan's list
  anchor_in : IsAmong (members_in base properties relations plan case level) (draft_weight level part.last)
  anchor_in =
      (grown_since base properties relations plan case before r after split level).old (draft_weight level part.last) step_placed.anchor_there

  -- what comes before another after the step does so in the plan's list
  stands_on : (v w : DraftWeight) → StandsBefore (list_at level (basis_of base properties) next) v w →
      StandsBefore (members_in base properties relations plan case level) v w
  stands_on v w stands =
      let good = (good_step (basis_of base properties) (length before) r here next step holds.lists).0 in
      let grown = (good_steps (basis_of base properties) (length before + 1) after next case.made.drafting
      (step_in base properties relations plan case before r after split).behind good).1 in
      (grown level).kept v w stands

  -- the new weight is on its side after the step
  stands_beside : StandsBeside insertion (list_at level (basis_of base properties) next)
  stands_beside =
      let good = holds.lists level in
      let fresh : IsAmong (list_at level (basis_of base properties) here) (New (length before)) → ⊥ =
      λ among. omega (arith, good.names (length before) among) in
      subst (StandsBeside insertion)
      (sym (placed_list (basis_of base properties) (length before) r here next step level insertion refl insertions_are))
      (stands_nearest insertion (list_at level (basis_of base properties) here) good.apart step_placed.anchor_there fresh).beside

  -- so its number is on that side
  on_side : IsOnSide r.before old_number new_number
  on_side = elim stands_beside [
    | inl less ↦
        subst (λ b. IsOnSide b old_number new_number) (sym less.0)
        (number_less base properties relations plan case level (New (length before)) (draft_weight level part.last)
        (stands_on (New (length before)) (draft_weight level part.last) less.1))
    | inr more ↦
        subst (λ b. IsOnSide b old_number new_number) (sym more.0)
        (number_less base properties relations plan case level (draft_weight level part.last) (New (length before))
        (stands_on (draft_weight level part.last) (New (length before)) more.1))
  ]

  -- ---- The anchor and the row

  -- the anchor's elements are its part and ignorable ones
  is_anchor : IsAnchor level (anchor_elements (tailoring_by base properties relations plan) r) (map (value base properties relations plan case) part.front)
      (value base properties relations plan case part.last) (map (value base properties relations plan case) found.trailing)
  is_anchor = record {
    whole = anchor_read base properties relations plan case before r after split
        ∙ ap (map (value base properties relations plan case)) found.split
        ∙ map-append (value base properties relations plan case) part.front (part.last ∷ found.trailing);
    ignorable = all_ignorable base properties relations plan case level found.trailing found.ignorable;
    not_ignorable = not_ignorable_stays base properties relations plan case level part.last last_listed found.not_ignorable;
    alone = no_continuation base properties relations plan case part.last last_listed
        (accepted_no_continuation level part.last step_placed.placed.accepted);
    low = subst (IsLow level) (sym (weight_number base properties relations plan case level part.last))
        (member_low base properties relations plan case level (draft_weight level part.last) anchor_in);
  }

  -- the target's row has its part with the new weight, and the expansion
  row_is : IsTargetRow (tailoring_by base properties relations plan) r
      (placing.placed level (map (value base properties relations plan case) part.front) (value base properties relations plan case part.last)
      (expansion_elements (tailoring_by base properties relations plan) r) new_number)
  row_is =
      let expansion = draft_expansion (basis_of base properties) here r.expansion in
      row_read base properties relations plan case before r after split
      ∙ ap Some
      (ap (λ (d : Drafted). map (value base properties relations plan case) d.elements) step_placed.placed.is
      ∙ map-append (value base properties relations plan case) part.front (reweighted level (New (length before)) part.last ∷ expansion)
      ∙ ap₂ (λ (e : Element) (es : List Element). map (value base properties relations plan case) part.front ++ e ∷ es)
      (reweighted_number base properties relations plan case level (length before) part.last last_listed)
      (sym (expansion_read base properties relations plan case before r after split)))

  -- so the target is placed
  is_placed : IsPlacedAt (tailoring_by base properties relations plan) r level old_number new_number
  is_placed = record {
    strength = strength;
    before = map (value base properties relations plan case) part.front;
    last = value base properties relations plan case part.last;
    trailing = map (value base properties relations plan case) found.trailing;
    anchor = is_anchor;
    old_weight = weight_number base properties relations plan case level part.last;
    side = on_side;
    row = row_is;
  }

-- ---- Relations

-- What is known of a relation at a level: its step; the anchor's weight, which is in the step's list and next to which
-- the new one is put in. And the target is placed with the numbers of the two.
pub record IsPlacedRelation (base : TableContent) (properties : Properties) (relations : List Relation) (plan : Plan)
    (case : IsCase base properties relations plan) (before : List Relation) (r : Relation) (after : List Relation) (level : Level) : Type 0 where
  pub at : IsStepAt (basis_of base properties) before r after (begun (basis_of base properties)) case.made.drafting
  pub anchor : DraftWeight
  pub insertions : at.step.new.insertions ≡ record { level = level; before = r.before; anchor = anchor; new = New (length before) } ∷ []
  pub anchor_there : IsAmong (list_at level (basis_of base properties) at.here) anchor
  pub placed : IsPlacedAt (tailoring_by base properties relations plan) r level (number_of base properties relations plan case level anchor)
      (number_of base properties relations plan case level (New (length before)))

-- each relation at a level is so
pub placed_relation : (base : TableContent) (properties : Properties) (relations : List Relation) (plan : Plan)
    (case : IsCase base properties relations plan) (before : List Relation) (r : Relation) (after : List Relation) (level : Level) →
    relations ≡ before ++ r ∷ after → level_of r.strength ≡ Some level → IsPlacedRelation base properties relations plan case before r after level
placed_relation base properties relations plan case before r after level split strength = record {
  at = step_in base properties relations plan case before r after split;
  anchor = draft_weight level (part base properties relations plan case before r after split level strength).last;
  insertions = insertions_are base properties relations plan case before r after split level strength;
  anchor_there = (step_placed base properties relations plan case before r after split level strength).anchor_there;
  placed = is_placed base properties relations plan case before r after split level strength;
}

-- ---- The conditions

module _ (base : TableContent) (properties : Properties) (relations : List Relation) (plan : Plan) (case : IsCase base properties relations plan)
    (before : List Relation) (r : Relation) (after : List Relation) (split : relations ≡ before ++ r ∷ after) where
  -- a relation has its anchor
  has_anchor : (level : Option Level) → level_of r.strength ≡ level → HasAnchorAt (tailoring_by base properties relations plan) r level
  has_anchor None strength = tt
  has_anchor (Some level) strength =
      let placed = is_placed base properties relations plan case before r after split level strength in
      (placed.before, placed.last, placed.trailing, placed.anchor)

  -- at no level the target's row has the elements of the anchor and of the expansion
  joined_row : level_of r.strength ≡ None → IsPlacedBy (tailoring_by base properties relations plan) r None
  joined_row strength =
      let at = step_in base properties relations plan case before r after split in
      let anchor = anchor_at (basis_of base properties) at.here r in
      let expansion = draft_expansion (basis_of base properties) at.here r.expansion in
      let elements : at.step.new.elements ≡ anchor ++ expansion =
      joined_is r.before (length before) anchor expansion at.step.new
      (subst (λ o. drafted_at o r.before (New (length before)) anchor expansion ≡ Some at.step.new) strength at.step.is_drafted) in
      row_read base properties relations plan case before r after split
      ∙ ap Some
      (ap (map (value base properties relations plan case)) elements
      ∙ map-append (value base properties relations plan case) anchor expansion
      ∙ ap₂ (λ (es fs : List Element). es ++ fs)
      (sym (anchor_read base properties relations plan case before r after split))
      (sym (expansion_read base properties relations plan case before r after split)))

  -- its target is placed
  placed_by : (level : Option Level) → level_of r.strength ≡ level → IsPlacedBy (tailoring_by base properties relations plan) r level
  placed_by None strength = joined_row strength
  placed_by (Some level) strength = (
    old_number base properties relations plan case before r after split level strength,
    new_number base properties relations plan case before r after split level strength,
    is_placed base properties relations plan case before r after split level strength,
  )

-- each relation of a plan has its anchor
pub meets_anchor : PlansMeet Anchor
meets_anchor base properties relations plan is =
    each_by_parts (HasAnchor (tailoring_by base properties relations plan)) relations
    (λ before r after split.
    has_anchor base properties relations plan (case_of base properties relations plan is) before r after split (level_of r.strength) refl)

-- and each target is placed
pub meets_not_placed : PlansMeet NotPlaced
meets_not_placed base properties relations plan is =
    each_by_parts (IsPlaced (tailoring_by base properties relations plan)) relations
    (λ before r after split.
    placed_by base properties relations plan (case_of base properties relations plan is) before r after split (level_of r.strength) refl)
