-- What an insertion makes of a level's list.
use Rattle.std.proofs.Common.{◌≡◌, ◌⊎◌, inl, inr, ◌+◌, Bool, true, false, List, [], ◌∷◌, length, if◌then◌else◌, refl, sym, arith, subst}
use Rattle.uca_plans.specs.declared.drafts.DraftWeight.{DraftWeight}
use Rattle.uca_plans.specs.Lists.{Insertion, inserted, same_weight, before_weight, after_weight}
use Rattle.uca_plans.specs.ListLaws.{IsAmong, StandsBefore, AreApart, NewWeightsStandNearest, NothingStandsBetween, NewWeightsTakePlaces}
use Rattle.uca_plans.proofs.ListMembers.{same_or_other, second_among, after_first, among_same}

-- a new weight put directly before or after the first position of another
pub data Inserts (a n : DraftWeight) : Bool → List DraftWeight → List DraftWeight → Type 0 where
  ahead : {ms : List DraftWeight} → Inserts a n true (a ∷ ms) (n ∷ a ∷ ms)
  behind : {ms : List DraftWeight} → Inserts a n false (a ∷ ms) (a ∷ n ∷ ms)
  later : {b : Bool} {m : DraftWeight} {ms ns : List DraftWeight} → (a ≡ m → ⊥) → Inserts a n b ms ns → Inserts a n b (m ∷ ms) (m ∷ ns)

-- ---- The function inserts so

-- at the first position
inserts_here : (a n : DraftWeight) (b : Bool) (ms : List DraftWeight) → Inserts a n b (a ∷ ms) (if b then n ∷ a ∷ ms else a ∷ n ∷ ms)
inserts_here a n true ms = ahead
inserts_here a n false ms = behind

-- another than the first is a later one
pub later_among : (m : DraftWeight) (ms : List DraftWeight) (w : DraftWeight) → (w ≡ m → ⊥) → IsAmong (m ∷ ms) w → IsAmong ms w
later_among m ms w other (inl here) = absurd (other (sym here))
later_among m ms w other (inr there) = there

-- an insertion next to a member puts the new weight there
pub inserts : (i : Insertion) (ms : List DraftWeight) → IsAmong ms i.anchor → Inserts i.anchor i.new i.before ms (inserted i ms)
inserts i [] among = absurd among
inserts i (m ∷ ms) among = elim (same_or_other i.anchor m) [
  | inl same ↦
      rw same.0
      (subst (λ x. Inserts i.anchor i.new i.before (x ∷ ms) (if i.before then i.new ∷ x ∷ ms else x ∷ i.new ∷ ms)) same.1
      (inserts_here i.anchor i.new i.before ms))
  | inr other ↦ rw other.0 (later other.1 (inserts i ms (later_among m ms i.anchor other.1 among)))
]

-- ---- Members

-- the list is one longer
pub inserts_more : {a n : DraftWeight} {b : Bool} {ms ns : List DraftWeight} → Inserts a n b ms ns → length ns ≡ length ms + 1
inserts_more (ahead {ms = ms}) = omega arith
inserts_more (behind {ms = ms}) = omega arith
inserts_more (later {ms = ms} {ns = ns} other h) = let more = inserts_more h in omega arith

-- a member is the new one or an old one
pub inserts_from : {a n : DraftWeight} {b : Bool} {ms ns : List DraftWeight} (w : DraftWeight) → Inserts a n b ms ns → IsAmong ns w
    → (w ≡ n) ⊎ IsAmong ms w
inserts_from w ahead (inl here) = inl (sym here)
inserts_from w ahead (inr there) = inr there
inserts_from w behind (inl here) = inr (inl here)
inserts_from w behind (inr (inl here)) = inl (sym here)
inserts_from w behind (inr (inr there)) = inr (inr there)
inserts_from w (later other h) (inl here) = inr (inl here)
inserts_from w (later other h) (inr there) = elim (inserts_from w h there) [
  | inl new ↦ inl new
  | inr old ↦ inr (inr old)
]

-- the new one is a member
pub inserts_new : {a n : DraftWeight} {b : Bool} {ms ns : List DraftWeight} → Inserts a n b ms ns → IsAmong ns n
inserts_new ahead = inl refl
inserts_new behind = inr (inl refl)
inserts_new (later other h) = inr (inserts_new h)

-- the old ones are members
pub inserts_old : {a n : DraftWeight} {b : Bool} {ms ns : List DraftWeight} (w : DraftWeight) → Inserts a n b ms ns → IsAmong ms w → IsAmong ns w
inserts_old w ahead among = inr among
inserts_old w behind (inl here) = inl here
inserts_old w behind (inr there) = inr (inr there)
inserts_old w (later other h) (inl here) = inl here
inserts_old w (later other h) (inr there) = inr (inserts_old w h there)

-- none comes twice
pub inserts_apart : {a n : DraftWeight} {b : Bool} {ms ns : List DraftWeight} → Inserts a n b ms ns → AreApart ms → (IsAmong ms n → ⊥) → AreApart ns
inserts_apart ahead apart fresh = (fresh, apart)
inserts_apart {a = a} {n = n} (behind {ms = ms}) apart fresh = (first_apart, (λ among. fresh (inr among), apart.1))
  where
    -- the anchor's weight is another than the new one
    first_apart : IsAmong (n ∷ ms) a → ⊥
    first_apart (inl here) = fresh (inl (sym here))
    first_apart (inr there) = apart.0 there
inserts_apart {n = n} (later {m = m} other h) apart fresh = (
  λ among. elim (inserts_from m h among) [
    | inl new ↦ fresh (inl new)
    | inr old ↦ apart.0 old
  ],
  inserts_apart h apart.1 (λ among. fresh (inr among)),
)

-- ---- The order

-- the new one comes on its side
inserts_beside : {a n : DraftWeight} {b : Bool} {ms ns : List DraftWeight} → Inserts a n b ms ns
    → ((b ≡ true) × StandsBefore ns n a) ⊎ ((b ≡ false) × StandsBefore ns a n)
inserts_beside ahead = inl (refl, inl (refl, inl refl))
inserts_beside behind = inr (refl, inl (refl, inl refl))
inserts_beside (later other h) = elim (inserts_beside h) [
  | inl before ↦ inl (before.0, inr before.1)
  | inr after ↦ inr (after.0, inr after.1)
]

-- the old ones keep their order
pub inserts_kept : {a n : DraftWeight} {b : Bool} {ms ns : List DraftWeight} (v w : DraftWeight) → Inserts a n b ms ns → StandsBefore ms v w
    → StandsBefore ns v w
inserts_kept v w ahead stands = inr stands
inserts_kept v w behind (inl here) = inl (here.0, inr here.1)
inserts_kept v w behind (inr there) = inr (inr there)
inserts_kept v w (later other h) (inl here) = inl (here.0, inserts_old w h here.1)
inserts_kept v w (later other h) (inr there) = inr (inserts_kept v w h there)

-- what comes before the anchor's weight comes before the new one
inserts_below : {a n : DraftWeight} {b : Bool} {ms ns : List DraftWeight} (v : DraftWeight) → Inserts a n b ms ns → AreApart ms → StandsBefore ms v a
    → StandsBefore ns v n
inserts_below {a = a} v (ahead {ms = ms}) apart stands = absurd (apart.0 (after_first a ms v a stands))
inserts_below {a = a} v (behind {ms = ms}) apart stands = absurd (apart.0 (after_first a ms v a stands))
inserts_below v (later other h) apart (inl here) = inl (here.0, inserts_new h)
inserts_below v (later other h) apart (inr there) = inr (inserts_below v h apart.1 there)

-- what comes after the anchor's weight comes after the new one
inserts_above : {a n : DraftWeight} {b : Bool} {ms ns : List DraftWeight} (w : DraftWeight) → Inserts a n b ms ns → StandsBefore ms a w
    → StandsBefore ns n w
inserts_above {a = a} w (ahead {ms = ms}) stands = inl (refl, inr (after_first a ms a w stands))
inserts_above {a = a} w (behind {ms = ms}) stands = inr (inl (refl, after_first a ms a w stands))
inserts_above w (later other h) (inl here) = absurd (other (sym here.0))
inserts_above w (later other h) (inr there) = inr (inserts_above w h there)

-- ---- Nothing between

-- nothing is after the anchor's weight and before the new one
none_after : {a n : DraftWeight} {b : Bool} {ms ns : List DraftWeight} (w : DraftWeight) → Inserts a n b ms ns → AreApart ns
    → StandsBefore ns a w → StandsBefore ns w n → ⊥
none_after {a = a} {n = n} w (ahead {ms = ms}) apart first second = apart.0 (after_first n (a ∷ ms) w n second)
none_after {a = a} {n = n} w (behind {ms = ms}) apart first (inl here) = apart.0 (among_same (n ∷ ms) w a (sym here.0) (after_first a (n ∷ ms) a w first))
none_after {n = n} w (behind {ms = ms}) apart first (inr there) = apart.1.0 (after_first n ms w n there)
none_after w (later other h) apart (inl here) second = other (sym here.0)
none_after {a = a} w (later {m = m} {ns = ns} other h) apart (inr there) (inl here) = apart.0 (among_same ns w m (sym here.0) (second_among ns a w there))
none_after w (later other h) apart (inr there) (inr also) = none_after w h apart.1 there also

-- nothing is after the new weight and before the anchor's
none_before : {a n : DraftWeight} {b : Bool} {ms ns : List DraftWeight} (w : DraftWeight) → Inserts a n b ms ns → AreApart ns
    → StandsBefore ns n w → StandsBefore ns w a → ⊥
none_before {a = a} {n = n} w (ahead {ms = ms}) apart first (inl here) = apart.0 (among_same (a ∷ ms) w n (sym here.0) (after_first n (a ∷ ms) n w first))
none_before {a = a} w (ahead {ms = ms}) apart first (inr there) = apart.1.0 (after_first a ms w a there)
none_before {a = a} {n = n} w (behind {ms = ms}) apart first second = apart.0 (after_first a (n ∷ ms) w a second)
none_before {n = n} w (later {m = m} {ns = ns} other h) apart (inl here) second = apart.0 (among_same ns n m (sym here.0) (inserts_new h))
none_before {n = n} w (later {m = m} {ns = ns} other h) apart (inr there) (inl here) = apart.0 (among_same ns w m (sym here.0) (second_among ns n w there))
none_before w (later other h) apart (inr there) (inr also) = none_before w h apart.1 there also

-- others than the new one were in the order that they are in
pub inserts_stood : {a n : DraftWeight} {b : Bool} {ms ns : List DraftWeight} (v w : DraftWeight) → Inserts a n b ms ns
    → (v ≡ n → ⊥) → (w ≡ n → ⊥) → StandsBefore ns v w → StandsBefore ms v w
inserts_stood v w ahead old_v old_w (inl here) = absurd (old_v (sym here.0))
inserts_stood v w ahead old_v old_w (inr there) = there
inserts_stood {n = n} v w (behind {ms = ms}) old_v old_w (inl here) = inl (here.0, later_among n ms w old_w here.1)
inserts_stood v w behind old_v old_w (inr (inl here)) = absurd (old_v (sym here.0))
inserts_stood v w behind old_v old_w (inr (inr there)) = inr there
inserts_stood v w (later other h) old_v old_w (inl here) = elim (inserts_from w h here.1) [
  | inl new ↦ absurd (old_w new)
  | inr old ↦ inl (here.0, old)
]
inserts_stood v w (later other h) old_v old_w (inr there) = inr (inserts_stood v w h old_v old_w there)

-- ---- Positions

-- the anchor's weight is a member
inserts_anchor : {a n : DraftWeight} {b : Bool} {ms ns : List DraftWeight} → Inserts a n b ms ns → IsAmong ms a
inserts_anchor ahead = inl refl
inserts_anchor behind = inl refl
inserts_anchor (later other h) = inr (inserts_anchor h)

-- the new weight is not the fixed one
not_same : (f n : DraftWeight) → (n ≡ f → ⊥) → same_weight f n ≡ false
not_same f n other = elim (same_or_other f n) [
  | inl same ↦ absurd (other (sym same.1))
  | inr not ↦ not.0
]

-- what an insertion adds to the members before a weight and to those after it
abbrev TakesOne : DraftWeight → DraftWeight → Bool → List DraftWeight → List DraftWeight → Type 0
TakesOne f a b ms ns =
    ((StandsBefore ms a f ⊎ ((a ≡ f) × (b ≡ true)))
    × (length (before_weight f ns) ≡ length (before_weight f ms) + 1) × (length (after_weight f ns) ≡ length (after_weight f ms)))
    ⊎ ((StandsBefore ms f a ⊎ ((a ≡ f) × (b ≡ false)))
    × (length (before_weight f ns) ≡ length (before_weight f ms)) × (length (after_weight f ns) ≡ length (after_weight f ms) + 1))

-- one member more in front that is not the weight
takes_later : (f a m : DraftWeight) (b : Bool) (ms ns : List DraftWeight) → same_weight f m ≡ false → TakesOne f a b ms ns
    → TakesOne f a b (m ∷ ms) (m ∷ ns)
takes_later f a m b ms ns other (inl low) = rw other (inl (elim low.0 [ inl stands ↦ inl (inr stands) | inr same ↦ inr same ], omega (arith, low.1), low.2))
takes_later f a m b ms ns other (inr high) = rw other (inr (elim high.0 [ inl stands ↦ inl (inr stands) | inr same ↦ inr same ], omega (arith, high.1), high.2))

-- an insertion adds one before the weight or one after it
takes_one : {a n : DraftWeight} {b : Bool} {ms ns : List DraftWeight} (f : DraftWeight) → Inserts a n b ms ns → IsAmong ms f → (n ≡ f → ⊥)
    → TakesOne f a b ms ns
takes_one {a = a} {n = n} f (ahead {ms = ms}) among new =
    let not_new = not_same f n new in
    elim (same_or_other f a) [
      | inl same ↦ rw (not_new, same.0) (inl (inr (sym same.1, refl), omega arith, refl))
      | inr other ↦ rw (not_new, other.0) (inl (inl (inl (refl, later_among a ms f other.1 among)), omega arith, refl))
    ]
takes_one {a = a} {n = n} f (behind {ms = ms}) among new =
    let not_new = not_same f n new in
    elim (same_or_other f a) [
      | inl same ↦ rw same.0 (inr (inr (sym same.1, refl), refl, omega arith))
      | inr other ↦ rw (not_new, other.0) (inl (inl (inl (refl, later_among a ms f other.1 among)), omega arith, refl))
    ]
takes_one {a = a} {n = n} {b = b} f (later {m = m} {ms = ms} {ns = ns} other h) among new = elim (same_or_other f m) [
  | inl same ↦ rw same.0 (inr (inl (inl (sym same.1, inserts_anchor h)), refl, inserts_more h))
  | inr not ↦ takes_later f a m b ms ns not.0 (takes_one f h (later_among m ms f not.1 among) new)
]

-- ---- The laws

-- a new weight is next to its anchor's
pub stands_nearest : NewWeightsStandNearest
stands_nearest i members apart among fresh =
    let h = inserts i members among in
    record {
      apart = inserts_apart h apart fresh;
      more = inserts_more h;
      each = λ w. (
        inserts_from w h,
        λ either. elim either [
          | inl new ↦ among_same (inserted i members) i.new w (sym new) (inserts_new h)
          | inr old ↦ inserts_old w h old
        ],
      );
      beside = inserts_beside h;
      kept = λ v w. inserts_kept v w h;
      below = λ v. inserts_below v h apart;
      above = λ w. inserts_above w h;
    }

-- nothing is between a new weight and its anchor's
pub stands_next : NothingStandsBetween
stands_next i members apart among fresh =
    let h = inserts i members among in
    let apart_after = inserts_apart h apart fresh in
    record {
      none_after = λ w. none_after w h apart_after;
      none_before = λ w. none_before w h apart_after;
      same = λ v w among_v among_w. (
        inserts_stood v w h (λ new. fresh (among_same members v i.new new among_v)) (λ new. fresh (among_same members w i.new new among_w)),
        inserts_kept v w h,
      );
    }

-- a new weight takes one position of one segment
pub takes_one_place : NewWeightsTakePlaces
takes_one_place fixed i members among anchor new = takes_one fixed (inserts i members anchor) among new
