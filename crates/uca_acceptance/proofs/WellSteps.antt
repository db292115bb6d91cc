-- The weights of drafts stay in good order from relation to relation.
use Rattle.std.proofs.Common.{◌≡◌, ◌⊎◌, inl, inr, ℕ, ◌+◌, ◌<◌, true, false, ◌&&◌, List, [], ◌∷◌, ◌++◌, map, Option, Some, None, refl, sym, ap}
use Rattle.std.proofs.Common.{◌∙◌, subst, arith}
use Rattle.std.specs.Prelude.{IfSome}
use Rattle.std.specs.List.{AllByRecursion}
use Rattle.uca_weights.specs.declared.Level.{Level}
use Rattle.uca_weights.specs.declared.Level.TheVariants.{One, Two, Three}
use Rattle.uca_weights.specs.Levels.{level_of}
use Rattle.uca_values.specs.Content.{AreImplicitRanges}
use Rattle.uca_values.specs.Implicit.{implicit}
use Rattle.uca_check.specs.WellFormed.{elements_of}
use Rattle.uca_weights.proofs.Lists.{each_weaker, each_append, each_parts}
use Rattle.uca_text.specs.Texts.{NfdText}
use Rattle.uca_relations.specs.declared.Relation.{Relation}
use Rattle.uca_relations.specs.Relations.{IsRuleText, HasRuleTexts}
use Rattle.uca_plans.specs.declared.drafts.DraftWeight.{DraftWeight}
use Rattle.uca_plans.specs.declared.drafts.DraftWeight.TheVariants.{New}
use Rattle.uca_plans.specs.declared.drafts.DraftElement.{DraftElement}
use Rattle.uca_plans.specs.Drafts.{as_draft, draft_elements, takes_no_weight, reweighted}
use Rattle.uca_plans.specs.Lists.{all_inserted}
use Rattle.uca_plans.specs.ListLaws.{IsInserted}
use Rattle.uca_plans.specs.Plans.{Basis, Drafting, drafted_at, draft_expansion, is_among_variables}
use Rattle.uca_plans.proofs.InsertionLemmas.{stands_nearest}
use Rattle.uca_values.proofs.ImplicitPairs.{each_pair}
use Rattle.uca_plans.proofs.GoodLists.{IsGrown}
use Rattle.uca_plans.proofs.PlanSteps.{target_row, IsStep, AreSteps}
use Rattle.uca_plans.proofs.PlanLists.{list_at, HasGrownLists, good_step, step_list}
use Rattle.uca_plans.proofs.DraftKinds.{accepted_low, joined_is}
use Rattle.uca_plans.proofs.DraftPairs.{read_each}
use Rattle.uca_plans.proofs.PlanHolds.{IsListed, IsReadImplicit, Holds}
use Rattle.uca_plans.proofs.PlanCarried.{listed_grown, reweighted_listed, anchor_at, IsPlacedStep, part_each, text_points, placed_step}
use Rattle.uca_plans.proofs.PlanCarried.{WithElement, carried_step}
use Rattle.uca_acceptance.proofs.WellDrafts.{IsBelow, IsBelowOrZero, StandWell, HasWellWeights}
use Rattle.uca_acceptance.proofs.NewWell.{insertion_at, new_well_one, new_well_two, new_well_three}
use Rattle.uca_acceptance.proofs.BaseOrder.{each_fails}
use Rattle.uca_acceptance.proofs.BaseWell.{implicit_is}
use Rattle.uca_plans.proofs.RowSizes.{each_with_row}

-- ---- Lists that have grown

-- what is below another is below it in a list that has grown
below_grown : (n : ℕ) (ms ns : List DraftWeight) (v w : DraftWeight) → IsGrown n ms ns → IsBelow ms v w → IsBelow ns v w
below_grown n ms ns v w grown (inl stands) = inl (grown.kept v w stands)
below_grown n ms ns v w grown (inr (inl there)) = inr (inl (grown.old v there.0, there.1))
below_grown n ms ns v w grown (inr (inr high)) = inr (inr high)

-- and what is below another or is none
below_or_zero_grown : (n : ℕ) (ms ns : List DraftWeight) (v w : DraftWeight) → IsGrown n ms ns → IsBelowOrZero ms v w → IsBelowOrZero ns v w
below_or_zero_grown n ms ns v w grown (inl none) = inl none
below_or_zero_grown n ms ns v w grown (inr stands) = inr (grown.kept v w stands)

-- weights in good order are so in lists that have grown
well_grown : (basis : Basis) (n : ℕ) (a b : Drafting) (E : DraftElement → Type 0) → HasGrownLists basis n a b
    → StandWell (list_at One basis a) (list_at Two basis a) (list_at Three basis a) E
    → StandWell (list_at One basis b) (list_at Two basis b) (list_at Three basis b) E
well_grown basis n a b E grown well = record {
  secondaries = λ e f held_e held_f first second.
      below_or_zero_grown n (list_at Two basis a) (list_at Two basis b) e.secondary f.secondary (grown Two) (well.secondaries e f held_e held_f first second);
  secondary_fixed = λ f held second. (grown Two).kept _ f.secondary (well.secondary_fixed f held second);
  tertiaries = λ e f held_e held_f first third.
      below_or_zero_grown n (list_at Three basis a) (list_at Three basis b) e.tertiary f.tertiary (grown Three) (well.tertiaries e f held_e held_f first third);
  tertiary_fixed = λ f held third. (grown Three).kept _ f.tertiary (well.tertiary_fixed f held third);
  variable = well.variable;
  apart = λ e held unmarked some. elim (well.apart e held unmarked some) [
    | inl below ↦ inl (λ v held_v marked.
        below_grown n (list_at One basis a) (list_at One basis b) e.primary v.primary (grown One) (below v held_v marked))
    | inr above ↦ inr (λ v held_v marked.
        below_grown n (list_at One basis a) (list_at One basis b) v.primary e.primary (grown One) (above v held_v marked))
  ];
}

-- ---- What is read

-- one of some elements, or an implicit one
abbrev OrImplicit : (DraftElement → Type 0) → DraftElement → Type 0
OrImplicit E e = E e ⊎ IsReadImplicit e

-- the elements of a text are among the elements so far, or implicit
text_read : (basis : Basis) (a : Drafting) (well : HasWellWeights basis a) → AreImplicitRanges basis.ranges → (text : NfdText) → IsRuleText text
    → AllByRecursion (OrImplicit well.E) (draft_elements basis.ranges basis.properties a.rows text)
text_read basis a well ranges text is =
    let Q : DraftElement → Type 0 = OrImplicit well.E in
    read_each (λ es. AllByRecursion Q es) tt (each_append Q) basis.ranges basis.properties a.rows text
    (each_weaker (λ row. AllByRecursion well.E row.elements) (λ row. AllByRecursion Q row.elements)
    (λ row all. each_weaker well.E Q (λ e held. inl held) row.elements all) a.rows well.held)
    (each_weaker (λ c. c < 0x11_0000) (λ c. AllByRecursion Q (map (as_draft true) (implicit basis.ranges basis.properties c)))
    (λ c within. each_pair (λ es. AllByRecursion Q (map (as_draft true) es))
    (λ lead low above below near. (inr (inl (lead, above, below, refl)), (inr (inr (low, near, refl)), tt)))
    basis.ranges basis.properties ranges c within) text.points (text_points text is))

-- and so are those of an expansion
expansion_read : (basis : Basis) (a : Drafting) (well : HasWellWeights basis a) → AreImplicitRanges basis.ranges → (expansion : Option NfdText)
    → IfSome expansion IsRuleText → AllByRecursion (OrImplicit well.E) (draft_expansion basis a expansion)
expansion_read basis a well ranges None is = tt
expansion_read basis a well ranges (Some text) is = text_read basis a well ranges text is

-- it is not implicit, or is outside the variable elements of the base
abbrev IsOutside : Basis → DraftElement → Type 0
IsOutside basis e = (e.implicit && is_among_variables (elements_of basis.base) e.primary) ≡ false

-- a target's elements are so
target_outside : (basis : Basis) (n : ℕ) (rule : Relation) (a b : Drafting) (step : IsStep basis n rule a b)
    → AllByRecursion (IsOutside basis) step.new.elements
target_outside basis n rule a b step =
    each_fails (λ e. e.implicit && is_among_variables (elements_of basis.base) e.primary) step.new.elements step.outside

-- such an element is among the elements so far
outside_held : (basis : Basis) (a : Drafting) (well : HasWellWeights basis a) (e : DraftElement) → OrImplicit well.E e → IsOutside basis e → well.E e
outside_held basis a well e (inl held) outside = held
outside_held basis a well e (inr read) outside =
    let tested : (true && is_among_variables (elements_of basis.base) e.primary) ≡ false = rw (implicit_is e read).tested at outside in
    well.outside e read tested

-- and so is each of a list
all_held : (basis : Basis) (a : Drafting) (well : HasWellWeights basis a) (es : List DraftElement) → AllByRecursion (OrImplicit well.E) es
    → AllByRecursion (IsOutside basis) es → AllByRecursion well.E es
all_held basis a well [] read outside = tt
all_held basis a well (e ∷ es) read outside = (outside_held basis a well e read.0 outside.0, all_held basis a well es read.1 outside.1)

-- ---- One step

-- weights are in good order after a step, among any elements that are so and are listed, if the new row is made of them
step_well : (basis : Basis) (n : ℕ) (rule : Relation) (a b : Drafting) (well : HasWellWeights basis a) (step : IsStep basis n rule a b)
    (F : DraftElement → Type 0) → ((e : DraftElement) → well.E e → F e)
    → StandWell (list_at One basis b) (list_at Two basis b) (list_at Three basis b) F
    → ((e : DraftElement) → F e → IsListed (list_at One basis b) (list_at Two basis b) (list_at Three basis b) e)
    → AllByRecursion F step.new.elements → HasWellWeights basis b
step_well basis n rule a b well step F keeps stands listed made =
    let old : AllByRecursion (λ row. AllByRecursion F row.elements) a.rows =
    each_weaker (λ row. AllByRecursion well.E row.elements) (λ row. AllByRecursion F row.elements)
    (λ row all. each_weaker well.E F keeps row.elements all) a.rows well.held in
    record {
      E = F;
      well = stands;
      listed = listed;
      outside = λ e read test. keeps e (well.outside e read test);
      held = subst (λ rows. AllByRecursion (λ row. AllByRecursion F row.elements) rows) (sym step.rows)
          (each_with_row (λ row. AllByRecursion F row.elements) (target_row rule step.new) a.rows made old);
    }

-- after a step at no level
joined_well : (basis : Basis) (n : ℕ) (rule : Relation) (a b : Drafting) (holds : Holds basis n a) → AreImplicitRanges basis.ranges
    → HasRuleTexts rule → (well : HasWellWeights basis a) (step : IsStep basis n rule a b)
    → step.new.elements ≡ anchor_at basis a rule ++ draft_expansion basis a rule.expansion → HasWellWeights basis b
joined_well basis n rule a b holds ranges texts well step elements =
    let grown = (good_step basis n rule a b step holds.lists).1 in
    let both : AllByRecursion (OrImplicit well.E) step.new.elements =
    subst (AllByRecursion (OrImplicit well.E)) (sym elements)
    (each_append (OrImplicit well.E) (anchor_at basis a rule) (draft_expansion basis a rule.expansion)
    (text_read basis a well ranges rule.anchor texts.anchors) (expansion_read basis a well ranges rule.expansion texts.expands)) in
    step_well basis n rule a b well step well.E (λ e held. held) (well_grown basis n a b well.E grown well.well)
    (λ e held. listed_grown basis n a b grown e (well.listed e held))
    (all_held basis a well step.new.elements both (target_outside basis n rule a b step))

-- ---- A step at a level

-- the last element of an accepted part is among the elements: an implicit one takes no weight at level 1, and passes
-- the test at the others
last_held : (level : Level) (basis : Basis) (a : Drafting) (well : HasWellWeights basis a) (n : ℕ) (last : DraftElement) → takes_no_weight level last ≡ false
    → OrImplicit well.E last → IsOutside basis (reweighted level (New n) last) → well.E last
last_held One basis a well n last accepted (inl held) outside = held
last_held One basis a well n last accepted (inr read) outside = absurd (accepted_low last accepted (implicit_is last read).primary)
last_held Two basis a well n last accepted read outside = outside_held basis a well last read outside
last_held Three basis a well n last accepted read outside = outside_held basis a well last read outside

module _ (basis : Basis) (n : ℕ) (rule : Relation) (a b : Drafting) (holds : Holds basis n a) (step : IsStep basis n rule a b) where
  -- a level's list after the step
  list_after : (level other : Level) (at : IsPlacedStep basis n rule a b holds step level)
      → list_at other basis b ≡ all_inserted other (insertion_at level rule.before n at.placed.part.last ∷ []) (list_at other basis a)
  list_after level other at =
      step_list basis n rule a b step other ∙ ap (λ is. all_inserted other is (list_at other basis a)) (ap (λ d. d.insertions) at.placed.is)

  -- the new weight is put in next to the anchor's
  put_in_list : (level : Level) (at : IsPlacedStep basis n rule a b holds step level)
      → IsInserted (insertion_at level rule.before n at.placed.part.last) (list_at level basis a)
  put_in_list level at =
      let good = holds.lists level in
      stands_nearest (insertion_at level rule.before n at.placed.part.last) (list_at level basis a) good.apart at.anchor_there
      (λ among. let less = good.names n among in omega (arith, less))

  -- weights are in good order with the new one
  stands_after : (level : Level) (at : IsPlacedStep basis n rule a b holds step level) (well : HasWellWeights basis a) → well.E at.placed.part.last
      → StandWell (list_at One basis b) (list_at Two basis b) (list_at Three basis b) (WithElement well.E (reweighted level (New n) at.placed.part.last))
  stands_after One at well held =
      rw (list_after One One at, list_after One Two at, list_after One Three at)
      (new_well_one (list_at One basis a) (list_at Two basis a) (list_at Three basis a) well.E at.placed.part.last rule.before n held well.well
      at.not_ignorable (accepted_low at.placed.part.last at.placed.accepted) (put_in_list One at))
  stands_after Two at well held =
      rw (list_after Two One at, list_after Two Two at, list_after Two Three at)
      (new_well_two (list_at One basis a) (list_at Two basis a) (list_at Three basis a) well.E at.placed.part.last rule.before n held well.well
      at.not_ignorable (put_in_list Two at))
  stands_after Three at well held =
      rw (list_after Three One at, list_after Three Two at, list_after Three Three at)
      (new_well_three (list_at One basis a) (list_at Two basis a) (list_at Three basis a) well.E at.placed.part.last rule.before n held well.well
      at.not_ignorable (put_in_list Three at))

  -- so they are after a step at a level
  placed_well : AreImplicitRanges basis.ranges → HasRuleTexts rule → (level : Level) → IsPlacedStep basis n rule a b holds step level
      → HasWellWeights basis a → HasWellWeights basis b
  placed_well ranges texts level at well =
      let good = good_step basis n rule a b step holds.lists in
      let part = at.placed.part in
      let new : DraftElement = reweighted level (New n) part.last in
      let expansion = draft_expansion basis a rule.expansion in
      let F : DraftElement → Type 0 = WithElement well.E new in
      let elements : step.new.elements ≡ part.front ++ new ∷ expansion = ap (λ d. d.elements) at.placed.is in
      let outside =
      each_parts (IsOutside basis) part.front (new ∷ expansion)
      (subst (AllByRecursion (IsOutside basis)) elements (target_outside basis n rule a b step)) in
      let read = part_each (OrImplicit well.E) level (anchor_at basis a rule) part at.placed.found (text_read basis a well ranges rule.anchor texts.anchors) in
      let last = last_held level basis a well n part.last at.placed.accepted read.1 outside.1.0 in
      let front = all_held basis a well part.front read.0 outside.0 in
      let behind = all_held basis a well expansion (expansion_read basis a well ranges rule.expansion texts.expands) outside.1.1 in
      step_well basis n rule a b well step F (λ e held. inl held) (stands_after level at well last)
      (λ e either. elim either [
        | inl held ↦ listed_grown basis n a b good.1 e (well.listed e held)
        | inr same ↦ subst (IsListed (list_at One basis b) (list_at Two basis b) (list_at Three basis b)) (sym same)
            (reweighted_listed level basis n (n + 1) b part.last good.0
            (listed_grown basis n a b good.1 part.last (well.listed part.last last)) at.new_there)
      ])
      (subst (AllByRecursion F) (sym elements)
      (each_append F part.front (new ∷ expansion) (each_weaker well.E F (λ e held. inl held) part.front front)
      (inr refl, each_weaker well.E F (λ e held. inl held) expansion behind)))

-- ---- All steps

-- weights are in good order after a step
one_well : (basis : Basis) (n : ℕ) (rule : Relation) (a b : Drafting) (holds : Holds basis n a) → AreImplicitRanges basis.ranges
    → HasRuleTexts rule → IsStep basis n rule a b → HasWellWeights basis a → HasWellWeights basis b
one_well basis n rule a b holds ranges texts step well = go (level_of rule.strength) step.is_drafted
  where
    -- by the level
    go : (level : Option Level)
        → drafted_at level rule.before (New n) (anchor_at basis a rule) (draft_expansion basis a rule.expansion) ≡ Some step.new → HasWellWeights basis b
    go None is =
        joined_well basis n rule a b holds ranges texts well step
        (joined_is rule.before n (anchor_at basis a rule) (draft_expansion basis a rule.expansion) step.new is)
    go (Some level) is =
        placed_well basis n rule a b holds step ranges texts level (placed_step basis n rule a b holds ranges texts step level is) well

-- weights are in good order after all steps
pub steps_well : (basis : Basis) (n : ℕ) (relations : List Relation) (a b : Drafting) (holds : Holds basis n a) → AreImplicitRanges basis.ranges
    → AllByRecursion HasRuleTexts relations → AreSteps basis n relations a b → HasWellWeights basis a → HasWellWeights basis b
steps_well basis n [] a b holds ranges texts steps well = subst (HasWellWeights basis) steps well
steps_well basis n (r ∷ relations) a b holds ranges texts steps well =
    let next = steps.0 in
    let first = carried_step basis n r a next holds ranges texts.0 steps.1 in
    steps_well basis (n + 1) relations next b first.behind ranges texts.1 steps.2 (one_well basis n r a next holds ranges texts.0 steps.1 well)
