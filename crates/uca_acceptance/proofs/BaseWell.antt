-- Weights are in good order before all relations: among the elements of a well-formed base, and the implicit ones that
-- are not among its variable elements.
use Rattle.std.proofs.Common.{◌≡◌, ◌⊎◌, inl, inr, ℕ, ◌<◌, ◌≤◌, true, false, List, map, refl, sym, ap, subst, arith}
use Rattle.std.proofs.lemmas.Bool.{cases_lt}
use Rattle.std.specs.List.{AllByRecursion}
use Rattle.uca_weights.specs.declared.Element.{Element}
use Rattle.uca_weights.specs.declared.Level.{Level}
use Rattle.uca_weights.specs.declared.Level.TheVariants.{One, Two, Three}
use Rattle.uca_weights.specs.Kinds.{IsPrimaryElement, IsSecondaryElement, IsTertiaryElement}
use Rattle.uca_values.specs.Content.{Fits, IsEntry}
use Rattle.uca_check.specs.WellFormed.{elements_of, IsHighSecondary, IsHighTertiary, IsVariable, IsVariableBetween, IsWellFormed}
use Rattle.uca_check.proofs.RowElements.{each_of_rows}
use Rattle.uca_plans.specs.declared.drafts.DraftWeight.{DraftWeight}
use Rattle.uca_plans.specs.declared.drafts.DraftWeight.TheVariants.{Base, New}
use Rattle.uca_plans.specs.declared.drafts.DraftElement.{DraftElement}
use Rattle.uca_plans.specs.Drafts.{as_draft}
use Rattle.uca_plans.specs.Lists.{base_weights}
use Rattle.uca_plans.specs.ListLaws.{IsAmong, StandsBefore}
use Rattle.uca_plans.specs.Plans.{Basis, begun, is_among_variables}
use Rattle.uca_plans.proofs.BaseWeightLemmas.{fixed_base}
use Rattle.uca_plans.proofs.ListMembers.{of_each}
use Rattle.uca_plans.proofs.DraftKinds.{IsZero, IsHigh}
use Rattle.uca_plans.proofs.DraftGaps.{base_zero}
use Rattle.uca_plans.proofs.PlanHolds.{IsListed, IsReadImplicit, IsBaseDraft, all_fit, weight_there, element_listed, implicit_listed, base_held}
use Rattle.uca_plans.proofs.PlanLists.{list_at, good_begun}
use Rattle.uca_acceptance.proofs.WellDrafts.{IsPrimaryDraft, IsSecondaryDraft, IsTertiaryDraft, IsBelow, IsBelowOrZero, StandWell, HasWellWeights}
use Rattle.uca_acceptance.proofs.BaseOrder.{base_stands, HasPlace, place_of, below_by_less, HasSide, side_of, side_tested}

-- ---- Implicit elements

-- what is used of an implicit element: its primary is from 8000 up, its other weights are the fixed ones or none, and it is not variable
pub record IsImplicitDraft (e : DraftElement) : Type 0 where
  pub primary : IsHigh e.primary
  pub secondary : (e.secondary ≡ Base 0x20) ⊎ IsZero e.secondary
  pub tertiary : (e.tertiary ≡ Base 2) ⊎ IsZero e.tertiary
  pub unmarked : e.mark ≡ false
  pub tested : e.implicit ≡ true

-- an implicit element is so
pub implicit_is : (e : DraftElement) → IsReadImplicit e → IsImplicitDraft e
implicit_is e (inl lead) = subst IsImplicitDraft (sym lead.3)
    (record { primary = omega (arith, lead.1); secondary = inl refl; tertiary = inl refl; unmarked = refl; tested = refl })
implicit_is e (inr low) = subst IsImplicitDraft (sym low.2)
    (record { primary = omega arith; secondary = inr refl; tertiary = inr refl; unmarked = refl; tested = refl })

-- a weight from 8000 up is one
high_some : (w : DraftWeight) → IsHigh w → IsZero w → ⊥
high_some (Base w) high none = let same = base_zero w none in omega (arith, high, same)
high_some (New n) high none = high

-- ---- The base

module _ (basis : Basis) (entries : AllByRecursion IsEntry basis.base) (well : IsWellFormed basis.properties.class basis.base) where
  -- the elements of the base
  abbrev es : List Element
  es = elements_of basis.base

  -- the list of a level
  abbrev ms : Level → List DraftWeight
  ms level = map Base (base_weights level es)

  -- the elements before all relations: those of the base, and the implicit ones outside the variable ones
  abbrev IsFirst : DraftElement → Type 0
  IsFirst e = IsBaseDraft basis e ⊎ (IsReadImplicit e × (is_among_variables es e.primary ≡ false))

  -- what is true of both kinds is true of each
  of_first : (P : DraftElement → Type 0) → ((x : Element) → IsAmong es x → P (as_draft false x))
      → ((e : DraftElement) → IsImplicitDraft e → is_among_variables es e.primary ≡ false → P e)
      → (e : DraftElement) → IsFirst e → P e
  of_first P base read e (inl is) = subst P (sym is.2) (base is.0 is.1)
  of_first P base read e (inr is) = read e (implicit_is e is.0) is.1

  -- ---- Secondary and tertiary weights

  -- weights of 16 bits
  fits_at : (x : Element) → IsAmong es x → Fits x
  fits_at x among = of_each Fits es x (all_fit basis.base entries) among

  -- a weight that is not 0 is in the list of level 2
  second_there : (x : Element) → IsAmong es x → 0 < x.secondary → IsAmong (base_weights Two es) x.secondary
  second_there x among some = let fits = (fits_at x among).secondary in weight_there Two es x among some (omega (arith, fits))

  -- and of level 3
  third_there : (x : Element) → IsAmong es x → 0 < x.tertiary → IsAmong (base_weights Three es) x.tertiary
  third_there x among some = let fits = (fits_at x among).tertiary in weight_there Three es x among some (omega (arith, fits))

  -- what WF2 says of an element
  abbrev IsAboveOthers : Element → Type 0
  IsAboveOthers e = (IsSecondaryElement e → IsHighSecondary es e.secondary) × (IsTertiaryElement e → IsHighTertiary es e.tertiary)

  -- so it is of each base element
  above_others : (x : Element) → IsAmong es x → IsAboveOthers x
  above_others x among = of_each IsAboveOthers es x (each_of_rows IsAboveOthers basis.base well.wf2) among

  -- a secondary element's weight is above 0020 and those of primary ones
  high_second : (y : Element) → IsAmong es y → IsSecondaryDraft (as_draft false y) → IsHighSecondary es y.secondary
  high_second y among is = (above_others y among).0 (base_zero y.primary is.0, λ none. is.1 (ap Base none))

  -- a tertiary element's weight is above 0002 and those of primary and secondary ones
  high_third : (y : Element) → IsAmong es y → IsTertiaryDraft (as_draft false y) → IsHighTertiary es y.tertiary
  high_third y among is = (above_others y among).1 (base_zero y.primary is.0, base_zero y.secondary is.1, λ none. is.2 (ap Base none))

  -- so a secondary weight comes after 0020
  second_fixed : (y : Element) → IsAmong es y → IsSecondaryDraft (as_draft false y) → StandsBefore (ms Two) (Base 0x20) (Base y.secondary)
  second_fixed y among is =
      let high = high_second y among is in
      base_stands Two es 0x20 y.secondary (fixed_base Two es) (second_there y among (omega (arith, high.0))) high.0

  -- and a tertiary one comes after 0002
  third_fixed : (y : Element) → IsAmong es y → IsTertiaryDraft (as_draft false y) → StandsBefore (ms Three) (Base 2) (Base y.tertiary)
  third_fixed y among is =
      let high = high_third y among is in
      base_stands Three es 2 y.tertiary (fixed_base Three es) (third_there y among (omega (arith, high.0))) high.0

  -- a secondary weight comes after those of primary elements
  second_above : (x y : Element) → IsAmong es x → IsAmong es y → IsPrimaryDraft (as_draft false x) → IsSecondaryDraft (as_draft false y)
      → IsBelowOrZero (ms Two) (Base x.secondary) (Base y.secondary)
  second_above x y among_x among_y first second =
      let high = high_second y among_y second in
      let less = of_each (λ f. IsPrimaryElement f → f.secondary < y.secondary) es x high.1 among_x (λ none. first (ap Base none)) in
      elim (cases_lt 0 x.secondary) [
        | inl some ↦ inr (base_stands Two es x.secondary y.secondary (second_there x among_x some) (second_there y among_y (omega (arith, high.0))) less)
        | inr none ↦ inl (ap Base (omega arith))
      ]

  -- and a tertiary one comes after those of primary and secondary elements
  third_above : (x y : Element) → IsAmong es x → IsAmong es y → IsPrimaryDraft (as_draft false x) ⊎ IsSecondaryDraft (as_draft false x)
      → IsTertiaryDraft (as_draft false y) → IsBelowOrZero (ms Three) (Base x.tertiary) (Base y.tertiary)
  third_above x y among_x among_y first third =
      let high = high_third y among_y third in
      let less = of_each (λ f. IsPrimaryElement f ⊎ IsSecondaryElement f → f.tertiary < y.tertiary) es x high.1 among_x (kind first) in
      elim (cases_lt 0 x.tertiary) [
        | inl some ↦ inr (base_stands Three es x.tertiary y.tertiary (third_there x among_x some) (third_there y among_y (omega (arith, high.0))) less)
        | inr none ↦ inl (ap Base (omega arith))
      ]
    where
      -- its kind
      kind : IsPrimaryDraft (as_draft false x) ⊎ IsSecondaryDraft (as_draft false x) → IsPrimaryElement x ⊎ IsSecondaryElement x
      kind (inl some) = inl (λ none. some (ap Base none))
      kind (inr is) = inr (base_zero x.primary is.0, λ none. is.1 (ap Base none))

  -- ---- Variable elements

  -- a variable base element has a primary
  variable_some : (x : Element) → IsAmong es x → IsVariable x → x.primary ≡ 0 → ⊥
  variable_some x among variable =
      of_each (λ e. IsVariable e → e.primary ≡ 0 → ⊥) es x (each_of_rows (λ e. IsVariable e → e.primary ≡ 0 → ⊥) basis.base well.wf3) among variable

  -- all variable elements are above one
  abbrev AllAbove : DraftWeight → Type 0
  AllAbove w = (v : DraftElement) → IsFirst v → v.mark ≡ true → IsBelow (ms One) w v.primary

  -- or below it
  abbrev AllBelow : DraftWeight → Type 0
  AllBelow w = (v : DraftElement) → IsFirst v → v.mark ≡ true → IsBelow (ms One) v.primary w

  -- a primary with a position and a side is below all variable elements or above them all
  apart_by_side : (p : ℕ) → HasPlace es p → HasSide es p → AllAbove (Base p) ⊎ AllBelow (Base p)
  apart_by_side p place (inl less) = inl (of_first (λ v. v.mark ≡ true → IsBelow (ms One) (Base p) v.primary)
      (λ y among variable. below_by_less es p y.primary place (place_of es y among (variable_some y among variable)) (less y among variable))
      (λ e is _ marked. let unmarked = is.unmarked in absurd (cc)))
  apart_by_side p place (inr more) = inr (of_first (λ v. v.mark ≡ true → IsBelow (ms One) v.primary (Base p))
      (λ y among variable. below_by_less es y.primary p (place_of es y among (variable_some y among variable)) place (more y among variable))
      (λ e is _ marked. let unmarked = is.unmarked in absurd (cc)))

  -- a base element that is not variable does
  base_apart : (x : Element) → IsAmong es x → x.mark ≡ false → IsPrimaryDraft (as_draft false x) → AllAbove (Base x.primary) ⊎ AllBelow (Base x.primary)
  base_apart x among unmarked some =
      apart_by_side x.primary (place_of es x among (λ none. some (ap Base none))) (side_of es x.primary none_around)
    where
      -- variable elements on both sides make it variable
      none_around : (v w : Element) → IsAmong es v → IsAmong es w → IsVariable v → IsVariable w → v.primary ≤ x.primary → x.primary ≤ w.primary → ⊥
      none_around v w among_v among_w variable_v variable_w low high =
          let between = of_each (IsVariableBetween es) es x (each_of_rows (IsVariableBetween es) basis.base well.wf4) among in
          let with_v = of_each (λ y. AllByRecursion (λ z. IsVariable y → IsVariable z → y.primary ≤ x.primary → x.primary ≤ z.primary → IsVariable x) es)
          es v between among_v in
          let marked : x.mark ≡ true =
          of_each (λ z. IsVariable v → IsVariable z → v.primary ≤ x.primary → x.primary ≤ z.primary → IsVariable x) es w with_v among_w
          variable_v variable_w low high in
          absurd (cc)

  -- and so does an implicit one outside
  read_apart : (w : DraftWeight) → IsHigh w → is_among_variables es w ≡ false → AllAbove w ⊎ AllBelow w
  read_apart (Base p) high outside = apart_by_side p (inl high) (side_tested es p outside)
  read_apart (New n) high outside = absurd high

  -- ---- All together

  -- weights are in good order
  first_well : StandWell (ms One) (ms Two) (ms Three) IsFirst
  first_well = record {
    secondaries = λ e f first_e first_f. of_first (λ g. IsPrimaryDraft e → IsSecondaryDraft g → IsBelowOrZero (ms Two) e.secondary g.secondary)
        (λ y among. of_first (λ d. IsPrimaryDraft d → IsSecondaryDraft (as_draft false y) → IsBelowOrZero (ms Two) d.secondary (Base y.secondary))
        (λ x among_x. second_above x y among_x among)
        (λ d is _ _ second. elim is.secondary [
          | inl same ↦ inr (subst (λ w. StandsBefore (ms Two) w (Base y.secondary)) (sym same) (second_fixed y among second))
          | inr none ↦ inl none
        ]) e first_e)
        (λ g is _ _ second. absurd (high_some g.primary is.primary second.0)) f first_f;
    secondary_fixed = of_first (λ f. IsSecondaryDraft f → StandsBefore (ms Two) (Base 0x20) f.secondary)
        second_fixed (λ f is _ second. absurd (high_some f.primary is.primary second.0));
    tertiaries = λ e f first_e first_f.
        of_first (λ g. IsPrimaryDraft e ⊎ IsSecondaryDraft e → IsTertiaryDraft g → IsBelowOrZero (ms Three) e.tertiary g.tertiary)
        (λ y among. of_first
        (λ d. IsPrimaryDraft d ⊎ IsSecondaryDraft d → IsTertiaryDraft (as_draft false y) → IsBelowOrZero (ms Three) d.tertiary (Base y.tertiary))
        (λ x among_x. third_above x y among_x among)
        (λ d is _ _ third. elim is.tertiary [
          | inl same ↦ inr (subst (λ w. StandsBefore (ms Three) w (Base y.tertiary)) (sym same) (third_fixed y among third))
          | inr none ↦ inl none
        ]) e first_e)
        (λ g is _ _ third. absurd (high_some g.primary is.primary third.0)) f first_f;
    tertiary_fixed = of_first (λ f. IsTertiaryDraft f → StandsBefore (ms Three) (Base 2) f.tertiary)
        third_fixed (λ f is _ third. absurd (high_some f.primary is.primary third.0));
    variable = of_first (λ e. e.mark ≡ true → IsPrimaryDraft e)
        (λ x among variable none. variable_some x among variable (base_zero x.primary none))
        (λ e is _ _. high_some e.primary is.primary);
    apart = of_first (λ e. e.mark ≡ false → IsPrimaryDraft e → AllAbove e.primary ⊎ AllBelow e.primary)
        base_apart (λ e is outside _ _. read_apart e.primary is.primary outside);
  }

  -- the weights of a well-formed base are in good order
  pub base_well : HasWellWeights basis (begun basis)
  base_well = record {
    E = IsFirst;
    well = first_well;
    listed = λ e is. elim is [
      | inl base ↦ subst (IsListed (list_at One basis (begun basis)) (list_at Two basis (begun basis)) (list_at Three basis (begun basis))) (sym base.2)
          (element_listed basis base.0 base.1 (fits_at base.0 base.1))
      | inr read ↦ implicit_listed basis 0 (begun basis) (good_begun basis) e read.0
    ];
    outside = λ e read test. inr (read, test);
    held = base_held IsFirst basis.base (λ x among. inl (x, among, refl));
  }
