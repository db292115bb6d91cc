-- Kinds of a plan's drafts are those of the numbered elements.
use Rattle.std.proofs.Common.{◌≡◌, inl, inr, ℕ, true, false, List, [], ◌∷◌, map, refl, sym, ap, ◌∙◌, arith}
use Rattle.std.specs.List.{AllByRecursion}
use Rattle.std.proofs.lemmas.Bool.{and_parts}
use Rattle.uca_weights.specs.declared.Level.{Level}
use Rattle.uca_weights.specs.declared.Level.TheVariants.{One, Two, Three}
use Rattle.uca_weights.specs.Kinds.{IsContinuation}
use Rattle.uca_weights.specs.Levels.{weight}
use Rattle.uca_values.specs.Content.{TableContent, Properties}
use Rattle.uca_relations.specs.declared.Relation.{Relation}
use Rattle.uca_tailorings.specs.Placing as placing
use Rattle.uca_tailorings.specs.Placing.{IsIgnorableTo, IsLow}
use Rattle.uca_tailorings.proofs.Sound.{reset_some}
use Rattle.uca_plans.specs.declared.drafts.DraftWeight.{DraftWeight}
use Rattle.uca_plans.specs.declared.drafts.DraftWeight.TheVariants.{Base, New}
use Rattle.uca_plans.specs.declared.drafts.DraftElement.{DraftElement}
use Rattle.uca_plans.specs.Drafts.{is_zero, is_ignorable_to, draft_weight, reset, reweighted}
use Rattle.uca_plans.specs.Lists.{fixed_weight}
use Rattle.uca_plans.specs.ListLaws.{IsAmong}
use Rattle.uca_plans.specs.Plans.{Plan}
use Rattle.uca_plans.proofs.DraftKinds.{IsZero, IsDraftContinuation, zero_or_not, ignorable_one, ignorable_two, ignorable_three, reset_cases}
use Rattle.uca_acceptance.proofs.PlanCase.{IsCase}
use Rattle.uca_acceptance.proofs.LevelImages.{members_in, number_of, number_within, fixed_number}
use Rattle.uca_acceptance.proofs.TailoredReading.{value}
use Rattle.uca_acceptance.proofs.NumberedKinds as kinds
use Rattle.uca_acceptance.proofs.NumberedKinds.{IsListedIn}

-- the test of no weight
zero_tested : (w : DraftWeight) → is_zero w ≡ true → IsZero w
zero_tested w tested = elim (zero_or_not w) [ inl is ↦ is.1 | inr not ↦ absurd (cc) ]

module _ (base : TableContent) (properties : Properties) (relations : List Relation) (plan : Plan) (case : IsCase base properties relations plan) where
  -- ---- Weights

  -- the weight of a numbered element is the number of the draft's
  pub weight_number : (level : Level) (e : DraftElement) →
      weight level (value base properties relations plan case e) ≡ number_of base properties relations plan case level (draft_weight level e)
  weight_number One e = refl
  weight_number Two e = refl
  weight_number Three e = refl

  -- the number of a member is low
  pub member_low : (level : Level) (w : DraftWeight) → IsAmong (members_in base properties relations plan case level) w →
      IsLow level (number_of base properties relations plan case level w)
  member_low One w among = let within = number_within base properties relations plan case One w among in omega (arith, within)
  member_low Two w among = tt
  member_low Three w among = tt

  -- ---- Elements

  -- an ignorable element stays ignorable
  pub ignorable_stays : (level : Level) (e : DraftElement) → is_ignorable_to level e ≡ true → IsIgnorableTo level (value base properties relations plan case e)
  ignorable_stays One e ignorable = kinds.zero_is base properties relations plan case One e.primary (zero_tested e.primary ignorable)
  ignorable_stays Two e ignorable =
      let both = and_parts (is_zero e.primary) (is_zero e.secondary) ignorable in (
        kinds.zero_is base properties relations plan case One e.primary (zero_tested e.primary both.0),
        kinds.zero_is base properties relations plan case Two e.secondary (zero_tested e.secondary both.1),
      )
  ignorable_stays Three e ignorable =
      let first = and_parts (is_zero e.primary) (is_ignorable_to Three (record e { primary = Base 0 })) ignorable in
      let rest = and_parts (is_zero e.secondary) (is_zero e.tertiary) first.1 in (
        kinds.zero_is base properties relations plan case One e.primary (zero_tested e.primary first.0),
        kinds.zero_is base properties relations plan case Two e.secondary (zero_tested e.secondary rest.0),
        kinds.zero_is base properties relations plan case Three e.tertiary (zero_tested e.tertiary rest.1),
      )

  -- and so do all of a list
  pub all_ignorable : (level : Level) (es : List DraftElement) → AllByRecursion (λ e. is_ignorable_to level e ≡ true) es →
      AllByRecursion (IsIgnorableTo level) (map (value base properties relations plan case) es)
  all_ignorable level [] all = tt
  all_ignorable level (e ∷ es) all = (ignorable_stays level e all.0, all_ignorable level es all.1)

  -- an element that is not ignorable does not become so
  pub not_ignorable_stays : (level : Level) (e : DraftElement) → IsListedIn base properties relations plan case e → is_ignorable_to level e ≡ false →
      IsIgnorableTo level (value base properties relations plan case e) → ⊥
  not_ignorable_stays One e listed not_ignorable ignorable =
      let test = ignorable_one e (kinds.no_primary base properties relations plan case e listed ignorable) in cc
  not_ignorable_stays Two e listed not_ignorable ignorable =
      let first = kinds.no_primary base properties relations plan case e listed ignorable.0 in
      let second = kinds.no_secondary base properties relations plan case e listed ignorable.1 in
      let test = ignorable_two e first second in cc
  not_ignorable_stays Three e listed not_ignorable ignorable =
      let first = kinds.no_primary base properties relations plan case e listed ignorable.0 in
      let second = kinds.no_secondary base properties relations plan case e listed ignorable.1 in
      let third = kinds.no_tertiary base properties relations plan case e listed ignorable.2 in
      let test = ignorable_three e first second third in cc

  -- what is no continuation becomes none
  pub no_continuation : (e : DraftElement) → IsListedIn base properties relations plan case e → (IsDraftContinuation e → ⊥)
      → IsContinuation (value base properties relations plan case e) → ⊥
  no_continuation e listed none goes_on =
      none (
        λ zero. goes_on.0 (kinds.zero_is base properties relations plan case One e.primary zero),
        kinds.no_secondary base properties relations plan case e listed goes_on.1,
        kinds.no_tertiary base properties relations plan case e listed goes_on.2,
      )

  -- a weight is reset as its number is
  reset_number : (level : Level) (w : DraftWeight) → (number_of base properties relations plan case level w ≡ 0 → IsZero w) →
      number_of base properties relations plan case level (reset w (fixed_weight level))
      ≡ placing.reset (number_of base properties relations plan case level w) (fixed_weight level)
  reset_number level w is = elim (reset_cases w (fixed_weight level)) [
    | inl none ↦
        kinds.zero_is base properties relations plan case level (reset w (fixed_weight level)) none.1
        ∙ ap (λ k. placing.reset k (fixed_weight level)) (sym (kinds.zero_is base properties relations plan case level w none.0))
    | inr some ↦
        ap (number_of base properties relations plan case level) some.1
        ∙ fixed_number base properties relations plan case level
        ∙ sym (reset_some (number_of base properties relations plan case level w) (fixed_weight level) (λ none. some.0 (is none)))
  ]

  -- an element with a new weight becomes the numbered one with the new number
  pub reweighted_number : (level : Level) (n : ℕ) (e : DraftElement) → IsListedIn base properties relations plan case e →
      value base properties relations plan case (reweighted level (New n) e)
      ≡ placing.reweighted level (number_of base properties relations plan case level (New n)) (value base properties relations plan case e)
  reweighted_number One n e listed =
      let secondary = reset_number Two e.secondary (kinds.no_secondary base properties relations plan case e listed) in
      let tertiary = reset_number Three e.tertiary (kinds.no_tertiary base properties relations plan case e listed) in
      rw (secondary, tertiary) refl
  reweighted_number Two n e listed =
      let tertiary = reset_number Three e.tertiary (kinds.no_tertiary base properties relations plan case e listed) in rw tertiary refl
  reweighted_number Three n e listed = refl
