-- Where weights are in good order among drafts, the numbered rows meet WF2, WF3 and WF4.
use Rattle.std.proofs.Common.{◌≡◌, ◌≢◌, ◌⊎◌, inl, inr, ℕ, ◌<◌, ◌≤◌, Bool, true, false, List, refl, sym, ap, subst, arith}
use Rattle.std.specs.List.{AllByRecursion}
use Rattle.uca_weights.specs.declared.Element.{Element}
use Rattle.uca_weights.specs.declared.Level.{Level}
use Rattle.uca_weights.specs.declared.Level.TheVariants.{One, Two, Three}
use Rattle.uca_weights.specs.Kinds.{IsPrimaryElement, IsSecondaryElement, IsTertiaryElement}
use Rattle.uca_values.specs.Content.{TableContent, Properties}
use Rattle.uca_check.specs.WellFormed.{elements_of, IsHighSecondary, IsHighTertiary, IsVariable, IsVariableBetween, MeetsWF2, MeetsWF3, MeetsWF4}
use Rattle.uca_check.proofs.RowElements.{each_of_rows}
use Rattle.uca_relations.specs.declared.Relation.{Relation}
use Rattle.uca_plans.specs.declared.drafts.DraftWeight.{DraftWeight}
use Rattle.uca_plans.specs.declared.drafts.DraftWeight.TheVariants.{Base, New}
use Rattle.uca_plans.specs.declared.drafts.DraftElement.{DraftElement}
use Rattle.uca_plans.specs.Plans.{Plan}
use Rattle.uca_plans.specs.Tailors.{basis_of}
use Rattle.uca_plans.proofs.DraftKinds.{zero_or_not}
use Rattle.uca_plans.proofs.PlanRows.{numbered_each}
use Rattle.uca_acceptance.proofs.PlanCase.{IsCase, plans_in}
use Rattle.uca_acceptance.proofs.LevelImages.{number_less, number_within, fixed_number, high_number}
use Rattle.uca_acceptance.proofs.WellWeights.{IsPrimaryDraft, IsSecondaryDraft, IsBelow, IsBelowOrZero, HasWellWeights}
use Rattle.uca_acceptance.proofs.NumberedKinds as kinds

module _ (base : TableContent) (properties : Properties) (relations : List Relation) (plan : Plan) (case : IsCase base properties relations plan)
    (weights : HasWellWeights (basis_of base properties) case.made.drafting) where
  -- the number of a weight
  abbrev number : Level → DraftWeight → ℕ
  number level w = kinds.number base properties relations plan case level w

  -- the list of a level
  abbrev members : Level → List DraftWeight
  members level = kinds.members base properties relations plan case level

  -- the numbered element
  abbrev made : DraftElement → Element
  made e = kinds.made base properties relations plan case e

  -- what is true of all numbered elements is true of each of each row of the plan
  each_row : (P : Element → Type 0) → ((e : DraftElement) → weights.E e → P (made e))
      → AllByRecursion (λ row. AllByRecursion P row.elements) plan.rows
  each_row P each =
      subst (λ rows. AllByRecursion (λ row. AllByRecursion P row.elements) rows) (sym (ap (λ p. p.rows) case.made.is_plan))
      (numbered_each weights.E P (plans_in base properties relations plan case) each case.made.drafting.rows weights.held)

  -- and of all elements of the plan
  each_element : (P : Element → Type 0) → ((e : DraftElement) → weights.E e → P (made e)) → AllByRecursion P (elements_of plan.rows)
  each_element P each = each_of_rows P plan.rows (each_row P each)

  -- ---- Order

  -- of primaries the lower one has the lesser number
  below_less : (v w : DraftWeight) → IsBelow (members One) v w → number One v < number One w
  below_less v w (inl stands) = number_less base properties relations plan case One v w stands
  below_less v w (inr (inl listed)) =
      omega (arith, number_within base properties relations plan case One v listed.0, kinds.high_is base properties relations plan case w listed.1)
  below_less (Base v) (Base w) (inr (inr high)) =
      let above : 0x8000 ≤ w = omega (arith, high.0, high.1) in
      omega (arith, high.1, high_number base properties relations plan case v high.0, high_number base properties relations plan case w above)
  below_less (Base v) (New n) (inr (inr high)) = absurd high
  below_less (New n) w (inr (inr high)) = absurd high

  -- and so at the other levels, where the lower one may be none
  zero_less : (level : Level) (v w : DraftWeight) → IsBelowOrZero (members level) v w → 0 < number level w → number level v < number level w
  zero_less level v w (inl none) some = omega (arith, kinds.zero_is base properties relations plan case level v none, some)
  zero_less level v w (inr stands) some = number_less base properties relations plan case level v w stands

  -- ---- Secondary and tertiary elements

  -- the weight of a secondary element is high
  high_secondary : (f : DraftElement) → weights.E f → IsSecondaryElement (made f) → IsHighSecondary (elements_of plan.rows) (made f).secondary
  high_secondary f held is =
      let kind = kinds.secondary_draft base properties relations plan case f (weights.listed f held) is in
      let some = kinds.listed_some base properties relations plan case Two f.secondary (weights.listed f held).secondary kind.1 in
      let above = number_less base properties relations plan case Two (Base 0x20) f.secondary (weights.well.secondary_fixed f held kind) in (
        omega (arith, above, fixed_number base properties relations plan case Two),
        each_element (λ e. IsPrimaryElement e → e.secondary < (made f).secondary) (λ e there primary. zero_less Two e.secondary f.secondary
            (weights.well.secondaries e f there held (kinds.primary_draft base properties relations plan case e primary) kind) some),
      )

  -- a primary or secondary element has such a draft
  stronger_draft : (e : DraftElement) → weights.E e → IsPrimaryElement (made e) ⊎ IsSecondaryElement (made e) → IsPrimaryDraft e ⊎ IsSecondaryDraft e
  stronger_draft e held (inl primary) = inl (kinds.primary_draft base properties relations plan case e primary)
  stronger_draft e held (inr secondary) = inr (kinds.secondary_draft base properties relations plan case e (weights.listed e held) secondary)

  -- the weight of a tertiary element is high
  high_tertiary : (f : DraftElement) → weights.E f → IsTertiaryElement (made f) → IsHighTertiary (elements_of plan.rows) (made f).tertiary
  high_tertiary f held is =
      let kind = kinds.tertiary_draft base properties relations plan case f (weights.listed f held) is in
      let some = kinds.listed_some base properties relations plan case Three f.tertiary (weights.listed f held).tertiary kind.2 in
      let above = number_less base properties relations plan case Three (Base 2) f.tertiary (weights.well.tertiary_fixed f held kind) in (
        omega (arith, above, fixed_number base properties relations plan case Three),
        each_element (λ e. IsPrimaryElement e ⊎ IsSecondaryElement e → e.tertiary < (made f).tertiary) (λ e there stronger.
            zero_less Three e.tertiary f.tertiary (weights.well.tertiaries e f there held (stronger_draft e there stronger) kind) some),
      )

  -- the rows of the plan meet WF2
  pub meets_wf2 : AllByRecursion (MeetsWF2 plan.rows) plan.rows
  meets_wf2 =
      each_row (λ e.
      (IsSecondaryElement e → IsHighSecondary (elements_of plan.rows) e.secondary)
      × (IsTertiaryElement e → IsHighTertiary (elements_of plan.rows) e.tertiary))
      (λ f held. (high_secondary f held, high_tertiary f held))

  -- ---- Variable elements

  -- a variable element has a primary
  variable_some : (v : DraftElement) → weights.E v → v.mark ≡ true → 0 < (made v).primary
  variable_some v held marked =
      kinds.primary_some base properties relations plan case v.primary (weights.listed v held).primary (weights.well.variable v held marked)

  -- and WF3
  pub meets_wf3 : AllByRecursion MeetsWF3 plan.rows
  meets_wf3 = each_row (λ e. IsVariable e → e.primary ≢ 0) (λ v held marked none. omega (arith, none, variable_some v held marked))

  -- it is variable, if its primary lies from that of one variable element to that of another
  abbrev IsVariableFromTo : Element → Element → Element → Type 0
  IsVariableFromTo e v w = IsVariable v → IsVariable w → v.primary ≤ e.primary → e.primary ≤ w.primary → IsVariable e

  -- an element that is not variable is not between variable ones
  not_between : (e v w : DraftElement) → weights.E e → weights.E v → weights.E w → e.mark ≡ false → v.mark ≡ true → w.mark ≡ true
      → (made v).primary ≤ (made e).primary → (made e).primary ≤ (made w).primary → ⊥
  not_between e v w held first last plain v_marked w_marked low high = elim (zero_or_not e.primary) [
    | inl none ↦ omega (arith, low, kinds.zero_is base properties relations plan case One e.primary none.1, variable_some v first v_marked)
    | inr some ↦ elim (weights.well.apart e held plain some.1) [
      | inl below ↦ omega (arith, low, below_less e.primary v.primary (below v first v_marked))
      | inr above ↦ omega (arith, high, below_less w.primary e.primary (above w last w_marked))
    ]
  ]

  -- so one that is between them is variable
  between : (e v w : DraftElement) → weights.E e → weights.E v → weights.E w → IsVariableFromTo (made e) (made v) (made w)
  between e v w held first last v_marked w_marked low high = go e.mark refl
    where
      -- by its mark
      go : (mark : Bool) → e.mark ≡ mark → e.mark ≡ true
      go true marked = marked
      go false plain = absurd (not_between e v w held first last plain v_marked w_marked low high)

  -- and WF4
  pub meets_wf4 : AllByRecursion (MeetsWF4 plan.rows) plan.rows
  meets_wf4 =
      each_row (IsVariableBetween (elements_of plan.rows)) (λ e held.
      each_element (λ v. AllByRecursion (IsVariableFromTo (made e) v) (elements_of plan.rows)) (λ v first.
      each_element (IsVariableFromTo (made e) (made v)) (λ w last. between e v w held first last)))
