-- What the maps of a plan's certificate make of each weight: its number.
use Rattle.std.proofs.Common.{◌≡◌, ◌⊎◌, inl, inr, ℕ, ◌+◌, ◌<◌, ◌≤◌, false, List, ◌∷◌, length, Some, nat_eq, nat_le, if◌then◌else◌, refl, sym, ap}
use Rattle.std.proofs.Common.{◌∙◌, subst, arith}
use Rattle.std.proofs.lemmas.Bool.{cases_lt}
use Rattle.std.proofs.lemmas.Bool.Decides.{nat_tests}
use Rattle.uca_weights.specs.declared.Level.{Level}
use Rattle.uca_weights.specs.declared.Level.TheVariants.{One, Two, Three}
use Rattle.uca_weights.specs.declared.maps.Run.{Run}
use Rattle.uca_weights.specs.Levels.{weight}
use Rattle.uca_weights.specs.Maps.{Sends}
use Rattle.uca_weights.specs.Runs.{weight_image}
use Rattle.uca_values.specs.Content.{TableContent, Properties, Fits}
use Rattle.uca_check.specs.WellFormed.{elements_of}
use Rattle.uca_relations.specs.declared.Relation.{Relation}
use Rattle.uca_weights.specs.PerLevel.{at_level}
use Rattle.uca_tailorings.specs.Images.{Maps, IsImage}
use Rattle.uca_tailorings.specs.Inputs.{maps_of}
use Rattle.uca_weights.specs.declared.Element.{Element}
use Rattle.uca_plans.specs.declared.drafts.DraftWeight.{DraftWeight}
use Rattle.uca_plans.specs.declared.drafts.DraftWeight.TheVariants.{Base, New}
use Rattle.uca_plans.specs.Lists.{fixed_weight, top_weight, level_numbers, number_in}
use Rattle.uca_plans.specs.ListLaws.{IsAmong, StandsBefore, AreLevelNumbers, IsWeightOf}
use Rattle.uca_plans.specs.Runs.{HasZeroFirstOrNone}
use Rattle.uca_plans.specs.Plans.{Plan, numbered_weight, numbered, runs_of}
use Rattle.uca_plans.specs.Drafts.{as_draft}
use Rattle.uca_plans.specs.Tailors.{certificate_of}
use Rattle.uca_plans.proofs.ListMembers.{of_each, first_among, second_among}
use Rattle.uca_plans.proofs.BaseWeightLemmas.{base_from}
use Rattle.uca_plans.proofs.RisingNumbers.{number_each, fixed_within, rise_along_lists}
use Rattle.uca_plans.proofs.RunImages.{runs_send}
use Rattle.uca_plans.proofs.GoodLists.{IsGoodList, good_fixed, among_bases, bases_among}
use Rattle.uca_plans.proofs.LevelRuns.{zero_first_or_none}
use Rattle.uca_plans.proofs.PlanHolds.{weight_there, all_fit}
use Rattle.uca_acceptance.proofs.PlanCase.{IsCase, plan_at, plans_in, good_in, room_in}
use Rattle.uca_acceptance.proofs.NumberedMembers.{low_number, low_sent, either_before}

module _ (base : TableContent) (properties : Properties) (relations : List Relation) (plan : Plan) (case : IsCase base properties relations plan) where
  -- the list of a level
  abbrev pub members_in : Level → List DraftWeight
  members_in level = (plan_at base properties relations plan case level).members

  -- the maps
  abbrev pub maps_in : Maps
  maps_in = maps_of (certificate_of plan)

  -- the number of a weight at a level
  abbrev pub number_of : Level → DraftWeight → ℕ
  number_of level w = numbered_weight level (plan_at base properties relations plan case level) w

  -- the number at the position of a member
  abbrev placed_number : Level → DraftWeight → ℕ
  placed_number level w = number_in (members_in level) (level_numbers level (members_in level)) w

  -- the list of a level is good
  good_at : (level : Level) → IsGoodList level (elements_of base.rows) (0 + length relations) (members_in level)
  good_at level = good_in base properties relations plan case level

  -- the numbers of a level rise along its list, are weights of the level, and leave the fixed weight
  pub numbers_in : (level : Level) → AreLevelNumbers level (members_in level)
  numbers_in level =
      let good = good_at level in
      let fixed = good_fixed level (elements_of base.rows) (0 + length relations) (members_in level) good in
      rise_along_lists level (members_in level) good.apart fixed (room_in base properties relations plan case level)

  -- a base member is 0, which is then fixed, or a weight that is numbered
  member_cases : (level : Level) (w : ℕ) → IsAmong (members_in level) (Base w)
      → ((w ≡ 0) × (w ≡ fixed_weight level)) ⊎ ((0 < w) × (w ≤ top_weight level))
  member_cases level w among =
      let good = good_at level in
      from (base_from level (elements_of base.rows) w (subst (λ ws. IsAmong ws w) good.base (among_bases (members_in level) w among)))
    where
      -- by where it comes from
      from : (w ≡ fixed_weight level) ⊎ IsWeightOf level (elements_of base.rows) w
          → ((w ≡ 0) × (w ≡ fixed_weight level)) ⊎ ((0 < w) × (w ≤ top_weight level))
      from (inl fixed) =
          let bound = fixed_within level in
          elim (cases_lt 0 w) [
            | inl some ↦ inr (some, omega arith)
            | inr none ↦ inl (omega arith, fixed)
          ]
      from (inr of) = inr (of.0, of.1)

  -- 0 stays
  pub zero_number : (level : Level) → number_of level (Base 0) ≡ 0
  zero_number One = refl
  zero_number Two = refl
  zero_number Three = refl

  -- a member has the number at its position
  member_number : (level : Level) (w : DraftWeight) → IsAmong (members_in level) w → number_of level w ≡ placed_number level w
  member_number level (Base w) among = elim (member_cases level w among) [
    | inl zero ↦
        let same : fixed_weight level ≡ 0 = omega arith in
        let fixed : placed_number level (Base 0) ≡ 0 = subst (λ x. placed_number level (Base x) ≡ x) same (numbers_in level).fixed in
        subst (λ x. number_of level (Base x) ≡ placed_number level (Base x)) (sym zero.0) (zero_number level ∙ sym fixed)
    | inr some ↦ low_number level (plan_at base properties relations plan case level) w some.0 some.1
  ]
  member_number One (New n) among = refl
  member_number Two (New n) among = refl
  member_number Three (New n) among = refl

  -- of two members the first has the lesser number, whether they are base weights or new ones
  pub number_less : (level : Level) (v w : DraftWeight) → StandsBefore (members_in level) v w → number_of level v < number_of level w
  number_less level v w stands =
      let first = member_number level v (first_among (members_in level) v w stands) in
      let second = member_number level w (second_among (members_in level) v w stands) in
      let less = (numbers_in level).rising v w stands in
      omega (arith, first, second, less)

  -- only 0 has the number 0
  pub number_positive : (level : Level) (w : DraftWeight) → IsAmong (members_in level) w → (w ≡ Base 0 → ⊥) → 0 < number_of level w
  number_positive level w among some =
      by_first
      (zero_first_or_none level (elements_of base.rows) (0 + length relations) (members_in level) (good_at level)
      (room_in base properties relations plan case level))
    where
      -- another than the first of a list comes after it
      after : (rest : List DraftWeight) → IsAmong (Base 0 ∷ rest) w → StandsBefore (Base 0 ∷ rest) (Base 0) w
      after rest (inl here) = absurd (some (sym here))
      after rest (inr there) = inl (refl, there)

      -- by whether 0 comes first
      by_first : HasZeroFirstOrNone (members_in level) (level_numbers level (members_in level)) → 0 < number_of level w
      by_first (inl none) =
          let here = member_number level w among in
          let positive = number_each (λ n. 0 < n) (members_in level) (level_numbers level (members_in level)) w (numbers_in level).same among none.1 in
          omega (arith, here, positive)
      by_first (inr first) =
          let there : IsAmong (Base 0 ∷ first.0) w = subst (λ ms. IsAmong ms w) first.2 among in
          let stands : StandsBefore (members_in level) (Base 0) w = subst (λ ms. StandsBefore ms (Base 0) w) (sym first.2) (after first.0 there) in
          let less = number_less level (Base 0) w stands in
          omega (arith, less)

  -- a number is a weight of the level
  pub number_within : (level : Level) (w : DraftWeight) → IsAmong (members_in level) w → number_of level w ≤ top_weight level
  number_within level w among =
      let here = member_number level w among in
      let bound = (numbers_in level).within w in
      omega (arith, here, bound)

  -- 0020 and 0002 keep their numbers
  pub fixed_number : (level : Level) → number_of level (Base (fixed_weight level)) ≡ fixed_weight level
  fixed_number level =
      let fixed = good_fixed level (elements_of base.rows) (0 + length relations) (members_in level) (good_at level) in
      member_number level (Base (fixed_weight level)) fixed ∙ (numbers_in level).fixed

  -- and so does at level 1 a weight from 8000 up
  pub high_number : (w : ℕ) → 0x8000 ≤ w → number_of One (Base w) ≡ w
  high_number w high = go (placed_number One (Base w))
    where
      -- for any number
      go : (n : ℕ) → (if nat_eq w 0 then 0 else if nat_le 0x8000 w then w else n) ≡ w
      go n = grind (arith, nat_tests)

  -- no two members have the same number
  pub one_number : (level : Level) (v w : DraftWeight) → IsAmong (members_in level) v → IsAmong (members_in level) w
      → number_of level v ≡ number_of level w → v ≡ w
  one_number level v w first second same = elim (either_before (members_in level) v w first second) [
    | inl equal ↦ equal
    | inr apart ↦ elim apart [
      | inl before ↦ let less = number_less level v w before in absurd (omega (arith, same, less))
      | inr behind ↦ let less = number_less level w v behind in absurd (omega (arith, same, less))
    ]
  ]

  -- ---- The maps

  -- the runs of a level
  abbrev runs_in : Level → List Run
  runs_in level = runs_of (members_in level) (level_numbers level (members_in level))

  -- the map of a level is that of its runs
  map_is : (level : Level) → at_level level maps_in ≡ weight_image level (runs_in level)
  map_is One = ap (λ p. weight_image One p.primary) case.made.is_plan
  map_is Two = ap (λ p. weight_image Two p.secondary) case.made.is_plan
  map_is Three = ap (λ p. weight_image Three p.tertiary) case.made.is_plan

  -- each map sends 0 to 0
  pub sends_zero : (level : Level) → Sends (at_level level maps_in) 0 0
  sends_zero One = refl
  sends_zero Two = refl
  sends_zero Three = refl

  -- 0 is sent to its number
  sends_none : (level : Level) (w : ℕ) → w ≡ 0 → Sends (at_level level maps_in) w (number_of level (Base w))
  sends_none level w none =
      subst (λ x. Sends (at_level level maps_in) x (number_of level (Base x))) (sym none) (sends_zero level ∙ ap Some (sym (zero_number level)))

  -- each map sends a listed weight to its number
  pub sends_number : (level : Level) (w : ℕ) → IsAmong (members_in level) (Base w) → Sends (at_level level maps_in) w (number_of level (Base w))
  sends_number level w among = elim (member_cases level w among) [
    | inl zero ↦ sends_none level w zero.0
    | inr some ↦
        ap (λ images. images w) (map_is level)
        ∙ low_sent level (runs_in level) w some.0 some.1
        ∙ runs_send (members_in level) (level_numbers level (members_in level)) w (numbers_in level).same some.0 among
        ∙ ap Some (sym (member_number level (Base w) among))
  ]

  -- the map of level 1 sends a weight from 8000 up to itself
  pub sends_high : (w : ℕ) → 0x8000 ≤ w → Sends maps_in.primary w w
  sends_high w high = grind (arith, nat_tests)

  -- a numbered weight of a base element is a member
  pub base_member : (level : Level) (e : Element) → IsAmong (elements_of base.rows) e → 0 < weight level e → weight level e ≤ top_weight level
      → IsAmong (members_in level) (Base (weight level e))
  base_member level e among some within =
      let es = elements_of base.rows in
      let listed = weight_there level es e among some within in
      bases_among (members_in level) (weight level e) (subst (λ ws. IsAmong ws (weight level e)) (sym (good_at level).base) listed)

  -- so a weight of a base element is sent to its number
  weight_sent : (level : Level) (e : Element) → IsAmong (elements_of base.rows) e → weight level e ≤ top_weight level
      → Sends (at_level level maps_in) (weight level e) (number_of level (Base (weight level e)))
  weight_sent level e among within = elim (cases_lt 0 (weight level e)) [
    | inl some ↦ sends_number level (weight level e) (base_member level e among some within)
    | inr none ↦ sends_none level (weight level e) (omega arith)
  ]

  -- the elements of base rows are sent to the numbered ones
  pub base_image : (e : Element) → IsAmong (elements_of base.rows) e
      → IsImage maps_in e (numbered (plans_in base properties relations plan case) (as_draft false e))
  base_image e among =
      let fits = of_each Fits (elements_of base.rows) e (all_fit base.rows case.table.rows.entries) among in
      record {
        primary = elim (cases_lt e.primary 0x8000) [
          | inl low ↦ weight_sent One e among (omega arith)
          | inr high ↦ sends_high e.primary high ∙ ap Some (sym (high_number e.primary high))
        ];
        secondary = weight_sent Two e among (omega (arith, fits.secondary));
        tertiary = weight_sent Three e among (omega (arith, fits.tertiary));
        mark = refl;
      }
