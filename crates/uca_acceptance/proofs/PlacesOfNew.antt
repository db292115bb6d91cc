-- Where the new weight of a relation was put in, and that what was there then is not between it and its anchor's.
use Rattle.std.proofs.Common.{◌≡◌, inl, inr, ℕ, ◌+◌, ◌<◌, ◌≤◌, Bool, List, [], ◌∷◌, ◌++◌, length, refl, sym, ap, subst, ◌∙◌, arith}
use Rattle.std.proofs.lemmas.List.{append_assoc, length-append}
use Rattle.uca_weights.specs.declared.Level.{Level}
use Rattle.uca_weights.specs.declared.Level.TheVariants.{One, Two, Three}
use Rattle.uca_values.specs.Content.{TableContent, Properties}
use Rattle.uca_check.specs.WellFormed.{elements_of}
use Rattle.uca_relations.specs.declared.Relation.{Relation}
use Rattle.uca_tailorings.specs.Tailorings.{IsPlacedAt, IsNewWeight, IsBetween}
use Rattle.uca_tailorings.proofs.Relating.{one_new}
use Rattle.uca_tailorings.proofs.Relating.{one_old}
use Rattle.uca_plans.specs.declared.drafts.DraftWeight.{DraftWeight}
use Rattle.uca_plans.specs.declared.drafts.DraftWeight.TheVariants.{Base, New}
use Rattle.uca_plans.specs.declared.drafts.Insertion.{Insertion}
use Rattle.uca_plans.specs.Lists.{inserted, all_inserted}
use Rattle.uca_plans.specs.ListLaws.{IsAmong, StandsBefore, StandsNext}
use Rattle.uca_plans.specs.Plans.{Plan, begun}
use Rattle.uca_plans.specs.Tailors.{basis_of}
use Rattle.uca_plans.proofs.InsertionLemmas.{inserts, inserts_new, inserts_old, stands_next}
use Rattle.uca_plans.proofs.GoodLists.{IsGoodList, IsGrown, among_bases, bases_among, new_is_new}
use Rattle.uca_plans.proofs.PlanLists.{list_at, HasGoodLists, good_begun, good_step, good_steps, step_list}
use Rattle.uca_acceptance.specs.Accepted.{tailoring_by}
use Rattle.uca_acceptance.proofs.PlanCase.{IsCase, good_in}
use Rattle.uca_acceptance.proofs.LevelImages.{members_in, number_of}
use Rattle.uca_acceptance.proofs.PlacedTargets.{IsPlacedRelation, placed_relation}
use Rattle.uca_acceptance.proofs.KnownNumbers.{in_order}

-- ---- Where a new weight was put in

-- the insertion of a new weight
abbrev pub put_by : Level → Bool → DraftWeight → ℕ → Insertion
put_by level side anchor place = record { level = level; before = side; anchor = anchor; new = New place }

-- an insertion of a level is one into its list
inserted_there : (level : Level) (side : Bool) (anchor new : DraftWeight) (ms : List DraftWeight)
    → all_inserted level (record { level = level; before = side; anchor = anchor; new = new } ∷ []) ms
    ≡ inserted (record { level = level; before = side; anchor = anchor; new = new }) ms
inserted_there One side anchor new ms = refl
inserted_there Two side anchor new ms = refl
inserted_there Three side anchor new ms = refl

module _ (base : TableContent) (properties : Properties) (relations : List Relation) (plan : Plan) (case : IsCase base properties relations plan)
    (level : Level) where
  -- the level's list
  abbrev members : List DraftWeight
  members = members_in base properties relations plan case level

  -- the number of a weight
  abbrev number : DraftWeight → ℕ
  number w = number_of base properties relations plan case level w

  -- The level's list before the relation at a position, which has the anchor's weight, and what later relations made of
  -- the list with the new weight.
  pub record IsPutIn (place : ℕ) (side : Bool) (anchor : DraftWeight) : Type 0 where
    pub here : List DraftWeight
    pub good : IsGoodList level (elements_of base.rows) place here
    pub anchor_there : IsAmong here anchor
    pub grown : IsGrown (place + 1) (inserted (put_by level side anchor place) here) members

  -- a relation at the level puts its new weight in
  pub is_put_in : (before : List Relation) (r : Relation) (after : List Relation)
      → (p : IsPlacedRelation base properties relations plan case before r after level) → IsPutIn (length before) r.before p.anchor
  is_put_in before r after p =
      let basis = basis_of base properties in
      let i : Insertion = put_by level r.before p.anchor (length before) in
      let place : 0 + length before ≡ length before = omega arith in
      let good = subst (λ n. HasGoodLists basis n p.at.here) place (good_steps basis 0 before (begun basis) p.at.here p.at.ahead (good_begun basis)).0 in
      let next = (good_step basis (length before) r p.at.here p.at.next p.at.step good).0 in
      let grown = (good_steps basis (length before + 1) after p.at.next case.made.drafting p.at.behind next).1 in
      let list : list_at level basis p.at.next ≡ inserted i (list_at level basis p.at.here) =
      step_list basis (length before) r p.at.here p.at.next p.at.step level
      ∙ ap (λ is. all_inserted level is (list_at level basis p.at.here)) p.insertions
      ∙ inserted_there level r.before p.anchor (New (length before)) (list_at level basis p.at.here) in
      record {
        here = list_at level basis p.at.here;
        good = good level;
        anchor_there = p.anchor_there;
        grown = subst (λ ms. IsGrown (length before + 1) ms members) list (grown level);
      }

  module _ (place : ℕ) (side : Bool) (anchor : DraftWeight) (put : IsPutIn place side anchor) where
    -- the list with the new weight
    abbrev with_new : List DraftWeight
    with_new = inserted (put_by level side anchor place) put.here

    -- the new weight is a member of it
    new_there : IsAmong with_new (New place)
    new_there = inserts_new (inserts (put_by level side anchor place) put.here put.anchor_there)

    -- and so is each weight that was there
    still_there : (w : DraftWeight) → IsAmong put.here w → IsAmong with_new w
    still_there w among = inserts_old w (inserts (put_by level side anchor place) put.here put.anchor_there) among

    -- the new weight is a member at the end
    pub new_stays : IsAmong members (New place)
    new_stays = put.grown.old (New place) new_there

    -- and so is the anchor's
    pub anchor_stays : IsAmong members anchor
    anchor_stays = put.grown.old anchor (still_there anchor put.anchor_there)

    -- base weights were there already
    pub base_there : (w : ℕ) → IsAmong members (Base w) → IsAmong with_new (Base w)
    base_there w among =
        let good = good_in base properties relations plan case level in
        let listed = subst (λ ws. IsAmong ws w) (good.base ∙ sym put.good.base) (among_bases members w among) in
        still_there (Base w) (bases_among put.here w listed)

    -- and so were earlier new weights
    pub earlier_there : (k : ℕ) → k < place → IsAmong members (New k) → IsAmong with_new (New k)
    earlier_there k less among = put.grown.names k (omega (arith, less)) among

    -- the number of nothing that was there lies between those of the new weight and the anchor's
    pub none_between : (w : DraftWeight) → IsAmong with_new w → IsBetween (number anchor) (number (New place)) (number w) → ⊥
    none_between w among between = elim between [
      | inl up ↦ next.none_after w
          (stood anchor w anchor_here among up.0)
          (stood w (New place) among new_there up.1)
      | inr down ↦ next.none_before w
          (stood (New place) w new_there among down.0)
          (stood w anchor among anchor_here down.1)
    ]
      where
        -- the anchor's weight is a member of the list with the new weight
        anchor_here : IsAmong with_new anchor
        anchor_here = still_there anchor put.anchor_there

        -- nothing was between the two when the new weight was put in
        next : StandsNext (put_by level side anchor place) put.here
        next =
            stands_next (put_by level side anchor place) put.here put.good.apart put.anchor_there
            (new_is_new level (elements_of base.rows) place put.here put.good)

        -- lesser numbers came before greater ones
        stood : (u v : DraftWeight) → IsAmong with_new u → IsAmong with_new v → number u < number v → StandsBefore with_new u v
        stood u v first second less =
            put.grown.stood u v first second
            (in_order base properties relations plan case level u v (put.grown.old u first) (put.grown.old v second) less)

-- ---- The numbers of new weights

module _ (base : TableContent) (properties : Properties) (relations : List Relation) (plan : Plan) (case : IsCase base properties relations plan)
    (level : Level) where
  -- the number of a new weight, whose position is one from `least` on and before `end`
  pub record IsNewNumber (least end w : ℕ) : Type 0 where
    pub place : ℕ
    pub from_least : least ≤ place
    pub before_end : place < end
    pub among : IsAmong (members_in base properties relations plan case level) (New place)
    pub number : w ≡ number_of base properties relations plan case level (New place)

  -- a relation's new weight is the number of its position
  pub own_number : (before : List Relation) (r : Relation) (after : List Relation)
      → (p : IsPlacedRelation base properties relations plan case before r after level) → (old new : ℕ)
      → IsPlacedAt (tailoring_by base properties relations plan) r level old new
      → (old ≡ number_of base properties relations plan case level p.anchor)
      × (new ≡ number_of base properties relations plan case level (New (length before)))
  own_number before r after p old new at = (
    one_old (tailoring_by base properties relations plan) r level old new (number_of base properties relations plan case level p.anchor)
        (number_of base properties relations plan case level (New (length before))) at p.placed,
    one_new (tailoring_by base properties relations plan) r level old new (number_of base properties relations plan case level p.anchor)
        (number_of base properties relations plan case level (New (length before))) at p.placed,
  )

  -- new weights of some of the relations are numbers of their positions
  pub new_numbers : (w : ℕ) (front some back : List Relation) → relations ≡ front ++ (some ++ back)
      → IsNewWeight (tailoring_by base properties relations plan) level w some → IsNewNumber (length front) (length front + length some) w
  new_numbers w front [] back split new = absurd new
  new_numbers w front (r ∷ some) back split (inl own) =
      let p = placed_relation base properties relations plan case front r (some ++ back) level split own.1.strength in
      let put = is_put_in base properties relations plan case level front r (some ++ back) p in
      record {
        place = length front;
        from_least = omega arith;
        before_end = omega arith;
        among = new_stays base properties relations plan case level (length front) r.before p.anchor put;
        number = (own_number front r (some ++ back) p own.0 w own.1).1;
      }
  new_numbers w front (r ∷ some) back split (inr later) =
      let rest = new_numbers w (front ++ r ∷ []) some back (split ∙ sym (append_assoc front (r ∷ []) (some ++ back))) later in
      let long = length-append front (r ∷ []) in
      record {
        place = rest.place;
        from_least = let least = rest.from_least in omega (arith, long, least);
        before_end = let end = rest.before_end in omega (arith, long, end);
        among = rest.among;
        number = rest.number;
      }
