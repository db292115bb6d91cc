-- The members of a level's list by their numbers: lesser ones come before greater ones, and known weights are those of
-- base weights.
use Rattle.std.proofs.Common.{◌≡◌, ◌⊎◌, inl, inr, ℕ, ◌+◌, ◌<◌, ◌≤◌, List, length, Some, Contains, sym, ap, ◌∙◌, arith}
use Rattle.std.proofs.lemmas.Bool.{cases_lt}
use Rattle.uca_weights.specs.declared.Element.{Element}
use Rattle.uca_weights.specs.declared.Level.{Level}
use Rattle.uca_weights.specs.declared.Level.TheVariants.{One, Two, Three}
use Rattle.uca_weights.specs.Levels.{weight}
use Rattle.uca_weights.specs.Maps.{Sends}
use Rattle.uca_values.specs.Content.{TableContent, Properties, Fits, IsEntry}
use Rattle.uca_check.specs.WellFormed.{elements_of}
use Rattle.uca_relations.specs.declared.Relation.{Relation}
use Rattle.uca_weights.specs.PerLevel.{at_level}
use Rattle.uca_tailorings.specs.Tailorings.{IsPairWeight, IsKnownWeight, IsImageOfBase}
use Rattle.uca_weights.proofs.Lists.{each_contained}
use Rattle.uca_tailorings.proofs.Nearest.{IsHigh}
use Rattle.uca_check.proofs.RowElements.{element_of_row}
use Rattle.uca_plans.specs.declared.drafts.DraftWeight.{DraftWeight}
use Rattle.uca_plans.specs.declared.drafts.DraftWeight.TheVariants.{Base}
use Rattle.uca_plans.specs.Lists.{top_weight}
use Rattle.uca_plans.specs.ListLaws.{IsAmong, StandsBefore}
use Rattle.uca_plans.specs.Plans.{Plan}
use Rattle.uca_plans.proofs.ListMembers.{each_of}
use Rattle.uca_plans.proofs.BaseWeightLemmas.{numbered_or_not}
use Rattle.uca_plans.proofs.GoodLists.{good_fixed}
use Rattle.uca_acceptance.specs.Accepted.{tailoring_by}
use Rattle.uca_acceptance.proofs.PlanCase.{IsCase, good_in}
use Rattle.uca_acceptance.proofs.LevelImages.{members_in, maps_in, number_of, number_less, fixed_number, sends_number, sends_high, base_member}
use Rattle.uca_acceptance.proofs.NumberedMembers.{either_before}

-- ---- Members

-- what a list contains is one of its members
pub among_contained : {A : Type 0} (xs : List A) (x : A) → Contains xs x → IsAmong xs x
among_contained xs x there = each_contained (λ y. IsAmong xs y) xs x (each_of (λ y. IsAmong xs y) xs (λ y among. among)) there

-- a weight of 16 bits
fits_at : (level : Level) (e : Element) → Fits e → weight level e < 0x1_0000
fits_at One e fits = fits.primary
fits_at Two e fits = fits.secondary
fits_at Three e fits = fits.tertiary

module _ (base : TableContent) (properties : Properties) (relations : List Relation) (plan : Plan) (case : IsCase base properties relations plan)
    (level : Level) where
  -- the level's list
  abbrev members : List DraftWeight
  members = members_in base properties relations plan case level

  -- the number of a weight
  abbrev number : DraftWeight → ℕ
  number w = number_of base properties relations plan case level w

  -- the member with the lesser number comes before the other
  pub in_order : (v w : DraftWeight) → IsAmong members v → IsAmong members w → number v < number w → StandsBefore members v w
  in_order v w first second less = elim (either_before members v w first second) [
    | inl same ↦ let also = ap number same in absurd (omega (arith, less, also))
    | inr stands ↦ elim stands [
      | inl before ↦ before
      | inr behind ↦ let greater = number_less base properties relations plan case level w v behind in absurd (omega (arith, less, greater))
    ]
  ]

-- ---- Known weights

-- the number of a base weight of the list
pub record IsBaseNumber (base : TableContent) (properties : Properties) (relations : List Relation) (plan : Plan)
    (case : IsCase base properties relations plan) (level : Level) (w : ℕ) : Type 0 where
  pub from : ℕ
  pub among : IsAmong (members_in base properties relations plan case level) (Base from)
  pub number : w ≡ number_of base properties relations plan case level (Base from)

module _ (base : TableContent) (properties : Properties) (relations : List Relation) (plan : Plan) (case : IsCase base properties relations plan) where
  -- the weight that implicit weights have at levels 2 and 3
  pair_number : (level : Level) (w : ℕ) → IsPairWeight level w → IsBaseNumber base properties relations plan case level w
  pair_number One w pair = absurd pair
  pair_number Two w pair = record {
    from = 0x20;
    among = good_fixed Two (elements_of base.rows) (0 + length relations) (members_in base properties relations plan case Two)
        (good_in base properties relations plan case Two);
    number = pair ∙ sym (fixed_number base properties relations plan case Two);
  }
  pair_number Three w pair = record {
    from = 2;
    among = good_fixed Three (elements_of base.rows) (0 + length relations) (members_in base properties relations plan case Three)
        (good_in base properties relations plan case Three);
    number = pair ∙ sym (fixed_number base properties relations plan case Three);
  }

  -- a weight of 16 bits that is not numbered is sent to a high one
  high_image : (level : Level) (v w : ℕ) → 0 < v → v < 0x1_0000 → ((0 < v) × (v ≤ top_weight level) → ⊥)
      → Sends (at_level level (maps_in base properties relations plan case)) v w → IsHigh level w
  high_image One v w some fits not sent =
      let high : 0x8000 ≤ v = elim (cases_lt v 0x8000) [ inl low ↦ absurd (not (some, omega (arith, low))) | inr high ↦ high ] in
      let same : Some v ≡ Some w = sym (sends_high base properties relations plan case v high) ∙ sent in
      let itself : v ≡ w = cc in
      rw (← itself) high
  high_image Two v w some fits not sent = absurd (not (some, omega (arith, fits)))
  high_image Three v w some fits not sent = absurd (not (some, omega (arith, fits)))

  -- the image of a weight of a base element
  image_number : (level : Level) (w : ℕ) → IsImageOfBase (tailoring_by base properties relations plan) level w
      → IsBaseNumber base properties relations plan case level w ⊎ IsHigh level w
  image_number level w image =
      let e = image.element in
      let among = among_contained (elements_of base.rows) e (element_of_row base.rows image.row e image.is_row image.is_element) in
      let fits = fits_at level e (each_contained Fits image.row.elements e
      (each_contained IsEntry base.rows image.row case.table.rows.entries image.is_row).fits image.is_element) in
      let some : 0 < weight level e = elim (cases_lt 0 (weight level e)) [ inl some ↦ some | inr none ↦ absurd (image.some (omega (arith, none))) ] in
      elim (numbered_or_not level (weight level e)) [
        | inl is ↦
            let there = base_member base properties relations plan case level e among is.1 is.2 in
            let sent = sends_number base properties relations plan case level (weight level e) there in
            let same : Some w ≡ Some (number_of base properties relations plan case level (Base (weight level e))) = sym image.image ∙ sent in
            inl (record { from = weight level e; among = there; number = cc })
        | inr not ↦ inr (high_image level (weight level e) w some fits not.1 image.image)
      ]

  -- a known weight is the number of a base weight of the list, or at level 1 one from 8000 up
  pub known_number : (level : Level) (w : ℕ) → IsKnownWeight (tailoring_by base properties relations plan) level w
      → IsBaseNumber base properties relations plan case level w ⊎ IsHigh level w
  known_number level w (inl image) = image_number level w image
  known_number level w (inr pair) = inl (pair_number level w pair)
