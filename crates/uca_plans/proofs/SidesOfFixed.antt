-- The two sides of the fixed weight: what an insertion makes of them.
use Rattle.std.proofs.Common.{◌≡◌, ◌⊎◌, inl, inr, ℕ, ◌+◌, Bool, true, false, ◌&&◌, ◌||◌, List, [], ◌∷◌, length, refl, sym, ap, ◌∙◌, subst}
use Rattle.std.specs.List.{list_any}
use Rattle.std.proofs.lemmas.Bool.{false≢true, false_from_ne_true, or_left, or_right, or_cases, or_from}
use Rattle.uca_weights.specs.declared.Level.{Level}
use Rattle.uca_plans.specs.declared.drafts.DraftWeight.{DraftWeight}
use Rattle.uca_plans.specs.declared.drafts.DraftWeight.TheVariants.{Base, New}
use Rattle.uca_plans.specs.Lists.{fixed_weight, Insertion, same_weight, inserted, low_members, high_members}
use Rattle.uca_plans.specs.ListLaws.{IsAmong, StandsBefore, AreApart, IsInserted, GoesLow, GoesHigh}
use Rattle.uca_plans.proofs.ListMembers.{same_or_other, same_itself, among_same, second_among, not_before_itself}
use Rattle.uca_plans.proofs.InsertionLemmas.{stands_nearest, takes_one_place}
use Rattle.uca_plans.specs.Room.{is_below_fixed, goes_low}
use Rattle.uca_plans.proofs.AnchoredInsertions.{IsAnchored}

-- if none comes twice, two do not come before each other
never_both : (ms : List DraftWeight) (v w : DraftWeight) → AreApart ms → StandsBefore ms v w → StandsBefore ms w v → ⊥
never_both [] v w apart first second = first
never_both (m ∷ ms) v w apart (inl here) (inl also) = apart.0 (among_same ms w m (sym also.0) here.1)
never_both (m ∷ ms) v w apart (inl here) (inr there) = apart.0 (among_same ms v m (sym here.0) (second_among ms w v there))
never_both (m ∷ ms) v w apart (inr there) (inl here) = apart.0 (among_same ms w m (sym here.0) (second_among ms v w there))
never_both (m ∷ ms) v w apart (inr there) (inr also) = never_both ms v w apart.1 there also

-- ---- Sides

-- the fixed weight of a level, as a member
abbrev pub fixed : Level → DraftWeight
fixed level = Base (fixed_weight level)

-- a member is low if it is below the fixed weight, and not low if it is the fixed weight or above it
abbrev pub HasSide : Level → List DraftWeight → List DraftWeight → DraftWeight → Type 0
HasSide level ms lows w =
    (StandsBefore ms w (fixed level) × (is_below_fixed level lows w ≡ true))
    ⊎ (((w ≡ fixed level) ⊎ StandsBefore ms (fixed level) w) × (is_below_fixed level lows w ≡ false))

-- What is true of a list and its new weights that went low. No member comes twice, the fixed weight is a member, each
-- member has a side, and those that went low are members.
pub record HasSides (level : Level) (ms lows : List DraftWeight) : Type 0 where
  pub apart : AreApart ms
  pub there : IsAmong ms (fixed level)
  pub sides : (w : DraftWeight) → IsAmong ms w → HasSide level ms lows w
  pub went : (n : ℕ) → list_any (same_weight (New n)) lows ≡ true → IsAmong ms (New n)

-- ---- Which side a new weight goes to

-- an anchor below the fixed weight, or at it, decides
low_side : (level : Level) (ms lows : List DraftWeight) (i : Insertion) → HasSides level ms lows → IsAmong ms i.anchor
    → GoesLow (fixed level) i ms → goes_low level lows i ≡ true
low_side level ms lows i has among (inl stands) = elim (has.sides i.anchor among) [
  | inl low ↦ or_left (is_below_fixed level lows i.anchor) (same_weight i.anchor (fixed level) && i.before) low.1
  | inr high ↦ elim high.0 [
    | inl same ↦ absurd (not_before_itself ms (fixed level) has.apart (subst (λ w. StandsBefore ms w (fixed level)) same stands))
    | inr above ↦ absurd (never_both ms i.anchor (fixed level) has.apart stands above)
  ]
]
low_side level ms lows i has among (inr at) =
    or_right (is_below_fixed level lows i.anchor) (same_weight i.anchor (fixed level) && i.before)
    (ap (λ b. b && i.before) (same_itself i.anchor (fixed level) at.0) ∙ at.1)

-- and the test says so of one that goes high
high_side : (level : Level) (ms lows : List DraftWeight) (i : Insertion) → HasSides level ms lows → IsAmong ms i.anchor
    → GoesHigh (fixed level) i ms → goes_low level lows i ≡ false
high_side level ms lows i has among high =
    or_from (is_below_fixed level lows i.anchor) (same_weight i.anchor (fixed level) && i.before) (not_low (has.sides i.anchor among) high) (not_before high)
  where
    -- the anchor's weight is not low
    not_low : HasSide level ms lows i.anchor → GoesHigh (fixed level) i ms → is_below_fixed level lows i.anchor ≡ false
    not_low (inr above) goes = above.1
    not_low (inl below) (inl stands) = absurd (never_both ms i.anchor (fixed level) has.apart below.0 stands)
    not_low (inl below) (inr at) = absurd (not_before_itself ms (fixed level) has.apart (subst (λ w. StandsBefore ms w (fixed level)) at.0 below.0))

    -- of two tests the second fails
    second_fails : (a b : Bool) → b ≡ false → (a && b) ≡ false
    second_fails true b fails = fails
    second_fails false b fails = refl

    -- and it is not the fixed weight with the new one before it
    not_before : GoesHigh (fixed level) i ms → (same_weight i.anchor (fixed level) && i.before) ≡ false
    not_before (inr at) = second_fails (same_weight i.anchor (fixed level)) i.before at.1
    not_before (inl stands) = elim (same_or_other i.anchor (fixed level)) [
      | inl same ↦ absurd (not_before_itself ms (fixed level) has.apart (subst (λ w. StandsBefore ms (fixed level) w) same.1 stands))
      | inr other ↦ ap (λ b. b && i.before) other.0
    ]

-- ---- The sides after an insertion

-- a weight that went low makes no other weight low
is_low_kept : (level : Level) (lows : List DraftWeight) (new w : DraftWeight) → (w ≡ new → ⊥) → is_below_fixed level (new ∷ lows) w ≡ is_below_fixed level lows w
is_low_kept level lows new (Base v) other = refl
is_low_kept level lows new (New n) other = elim (same_or_other (New n) new) [
  | inl same ↦ absurd (other same.1)
  | inr not ↦ ap (λ b. b || list_any (same_weight (New n)) lows) not.0
]

module _ (level : Level) (ms lows : List DraftWeight) (i : Insertion) (has : HasSides level ms lows) (at : IsAnchored i ms) where
  -- what the insertion makes of the list
  nearest : IsInserted i ms
  nearest = stands_nearest i ms has.apart at.anchor at.fresh

  -- a member that was there keeps its side, where it is as low as it was
  side_kept : (news : List DraftWeight) (w : DraftWeight) → is_below_fixed level news w ≡ is_below_fixed level lows w → IsAmong ms w
      → HasSide level (inserted i ms) news w
  side_kept news w same among = elim (has.sides w among) [
    | inl low ↦ inl (nearest.kept w (fixed level) low.0, same ∙ low.1)
    | inr high ↦ inr (elim high.0 [ inl is ↦ inl is | inr above ↦ inr (nearest.kept (fixed level) w above) ], same ∙ high.1)
  ]

  -- so all members have sides where the new one has, and as many are low
  sides_after : (news : List DraftWeight) → HasSide level (inserted i ms) news i.new
      → ((w : DraftWeight) → IsAmong ms w → is_below_fixed level news w ≡ is_below_fixed level lows w)
      → ((n : ℕ) → list_any (same_weight (New n)) news ≡ true → IsAmong (inserted i ms) (New n)) → HasSides level (inserted i ms) news
  sides_after news new same went = record {
    apart = nearest.apart;
    there = (nearest.each (fixed level)).1 (inr has.there);
    sides = λ w among. elim ((nearest.each w).0 among) [
      | inl is ↦ subst (HasSide level (inserted i ms) news) (sym is) new
      | inr old ↦ side_kept news w (same w old) old
    ];
    went = went;
  }

  -- what went low is a member still
  still_there : (n : ℕ) → list_any (same_weight (New n)) lows ≡ true → IsAmong (inserted i ms) (New n)
  still_there n went = (nearest.each (New n)).1 (inr (has.went n went))

  -- a new weight that goes low is below the fixed one
  new_below : GoesLow (fixed level) i ms → StandsBefore (inserted i ms) i.new (fixed level)
  new_below (inl stands) = nearest.above (fixed level) stands
  new_below (inr is) = elim nearest.beside [
    | inl before ↦ subst (λ w. StandsBefore (inserted i ms) i.new w) is.0 before.1
    | inr behind ↦ absurd (false≢true (sym behind.0 ∙ is.1))
  ]

  -- and one that goes high above it
  new_above : GoesHigh (fixed level) i ms → StandsBefore (inserted i ms) (fixed level) i.new
  new_above (inl stands) = nearest.below (fixed level) stands
  new_above (inr is) = elim nearest.beside [
    | inl before ↦ absurd (false≢true (sym is.1 ∙ before.0))
    | inr behind ↦ subst (λ w. StandsBefore (inserted i ms) w i.new) is.0 behind.1
  ]

  -- the sides where the new weight goes low
  low_after : GoesLow (fixed level) i ms → HasSides level (inserted i ms) (i.new ∷ lows)
  low_after low =
      sides_after (i.new ∷ lows)
      (inl (
        new_below low,
        subst (λ w. is_below_fixed level (w ∷ lows) w ≡ true) (sym at.named)
            (or_left (same_weight (New at.name) (New at.name)) (list_any (same_weight (New at.name)) lows) (same_itself (New at.name) (New at.name) refl)),
      ))
      (λ w among. is_low_kept level lows i.new w (λ same. at.fresh (among_same ms w i.new same among)))
      (λ n went. elim (or_cases (same_weight (New n) i.new) (list_any (same_weight (New n)) lows) went) [
        | inl here ↦ elim (same_or_other (New n) i.new) [
          | inl same ↦ (nearest.each (New n)).1 (inl same.1)
          | inr other ↦ absurd (false≢true (sym other.0 ∙ here))
        ]
        | inr old ↦ still_there n old
      ])

  -- and where it goes high
  high_after : GoesHigh (fixed level) i ms → HasSides level (inserted i ms) lows
  high_after high =
      sides_after lows
      (inr (
        inr (new_above high),
        subst (λ w. is_below_fixed level lows w ≡ false) (sym at.named)
            (false_from_ne_true (list_any (same_weight (New at.name)) lows) (λ went. at.fresh (subst (IsAmong ms) (sym at.named) (has.went at.name went)))),
      ))
      (λ w among. refl)
      still_there

  -- The new weight goes low, and there is one low member more, or it does not, and there is one high member more.
  pub goes : ((goes_low level lows i ≡ true) × HasSides level (inserted i ms) (i.new ∷ lows)
      × (length (low_members level (inserted i ms)) ≡ length (low_members level ms) + 1)
      × (length (high_members level (inserted i ms)) ≡ length (high_members level ms)))
      ⊎ ((goes_low level lows i ≡ false) × HasSides level (inserted i ms) lows
      × (length (low_members level (inserted i ms)) ≡ length (low_members level ms))
      × (length (high_members level (inserted i ms)) ≡ length (high_members level ms) + 1))
  goes = elim (takes_one_place (fixed level) i ms has.there at.anchor (λ is. at.fresh (among_same ms (fixed level) i.new (sym is) has.there))) [
    | inl low ↦ inl (low_side level ms lows i has at.anchor low.0, low_after low.0, low.1, low.2)
    | inr high ↦ inr (high_side level ms lows i has at.anchor high.0, high_after high.0, high.1, high.2)
  ]
