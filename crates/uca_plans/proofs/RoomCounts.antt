-- The members below the fixed weight and above it are counted by insertions alone.
use Rattle.std.proofs.Common.{◌≡◌, ◌⊎◌, inl, inr, ℕ, suc, ◌+◌, ◌<◌, ◌≤◌, Bool, true, false, List, [], ◌∷◌, length, map, nat_eq, nat_lt, refl, sym, ap}
use Rattle.std.proofs.Common.{◌∙◌, subst, if◌then◌else◌, arith}
use Rattle.std.specs.Prelude.{◌↔◌}
use Rattle.std.specs.List.{AllByRecursion, filter}
use Rattle.std.proofs.lemmas.Bool.{false≢true, and_from}
use Rattle.std.proofs.lemmas.Bool.Decides.{nat_tests}
use Rattle.uca_weights.specs.declared.Element.{Element}
use Rattle.uca_weights.specs.declared.Level.{Level}
use Rattle.uca_check.specs.WellFormed.{elements_of}
use Rattle.uca_plans.specs.declared.drafts.DraftWeight.{DraftWeight}
use Rattle.uca_plans.specs.declared.drafts.DraftWeight.TheVariants.{Base, New}
use Rattle.uca_plans.specs.declared.drafts.Segment.{Segment}
use Rattle.uca_plans.specs.Lists.{fixed_weight, base_weights, Insertion, same_level, inserted, all_inserted, before_weight, after_weight}
use Rattle.uca_plans.specs.Lists.{low_members, high_members, low_segment, high_segment, has_room, level_has_room, members_of}
use Rattle.uca_plans.specs.ListLaws.{IsRising, IsAmong, StandsBefore}
use Rattle.uca_plans.proofs.ListMembers.{of_each}
use Rattle.uca_plans.proofs.BaseWeightLemmas.{bases_rising, fixed_base}
use Rattle.uca_plans.proofs.RisingNumbers.{fixed_within, level_places}
use Rattle.uca_plans.proofs.GoodLists.{among_bases, base_among, bases_of_base, good_base}
use Rattle.uca_plans.specs.Room.{goes_low, low_count, high_count, low_total, high_total, places, RoomIsCounted}
use Rattle.uca_plans.proofs.AnchoredInsertions.{IsAnchored, AreAnchored, all_anchored}
use Rattle.uca_plans.proofs.SidesOfFixed.{HasSide, HasSides, goes}

-- ---- Insertion by insertion

-- the members of each side after insertions are those before them and the new ones that go there
abbrev AreCounted : Level → List Insertion → List DraftWeight → List DraftWeight → Type 0
AreCounted level is ms lows =
    (length (low_members level (all_inserted level is ms)) ≡ length (low_members level ms) + low_count level lows is)
    × (length (high_members level (all_inserted level is ms)) ≡ length (high_members level ms) + high_count level lows is)

-- they are so, insertion by insertion
counted_along : (level : Level) (is : List Insertion) (ms lows : List DraftWeight) → HasSides level ms lows → AreAnchored level is ms
    → AreCounted level is ms lows
counted_along level [] ms lows has anchored = (omega arith, omega arith)
counted_along level (i ∷ is) ms lows has anchored =
    go (same_level i.level level) refl anchored.0 anchored.1 (λ ns others more there. counted_along level is ns others more there)
  where
    -- by the level of the first
    go : (same : Bool) → same_level i.level level ≡ same → (same_level i.level level ≡ true → IsAnchored i ms)
        → AreAnchored level is (if same then inserted i ms else ms)
        → ((ns others : List DraftWeight) → HasSides level ns others → AreAnchored level is ns → AreCounted level is ns others)
        → (length (low_members level (all_inserted level is (if same then inserted i ms else ms)))
        ≡ length (low_members level ms)
        + (if same then (if goes_low level lows i then low_count level (i.new ∷ lows) is + 1 else low_count level lows is) else low_count level lows is))
        × (length (high_members level (all_inserted level is (if same then inserted i ms else ms)))
        ≡ length (high_members level ms)
        + (if same then (if goes_low level lows i then high_count level (i.new ∷ lows) is else high_count level lows is + 1) else high_count level lows is))
    go false e at rest more = more ms lows has rest
    go true e at rest more = elim (goes level ms lows i has (at e)) [
      | inl low ↦
          let counts = more (inserted i ms) (i.new ∷ lows) low.1 rest in
          rw low.0 (omega (arith, counts.0, low.2), omega (arith, counts.1, low.3))
      | inr high ↦
          let counts = more (inserted i ms) lows high.1 rest in
          rw high.0 (omega (arith, counts.0, high.2), omega (arith, counts.1, high.3))
    ]

-- ---- Base weights

-- each of some rising weights is less than one of them and comes before it, or is the same, or is greater and comes
-- after it
base_side : (ws : List ℕ) (f v : ℕ) → IsRising ws → IsAmong ws f → IsAmong ws v
    → (StandsBefore (map Base ws) (Base v) (Base f) × (nat_lt v f ≡ true))
    ⊎ (((Base v ≡ Base f) ⊎ StandsBefore (map Base ws) (Base f) (Base v)) × (nat_lt v f ≡ false))
base_side [] f v rising there among = absurd there
base_side (w ∷ ws) f v rising (inl here) (inl also) = inr (inl (ap Base (sym also ∙ here)), grind (arith, nat_tests, here, also))
base_side (w ∷ ws) f v rising (inl here) (inr among) =
    let above : w < v = of_each (λ x. w < x) ws v rising.0 among in
    inr (inr (inl (ap Base here, base_among ws v among)), grind (arith, nat_tests, here, above))
base_side (w ∷ ws) f v rising (inr there) (inl here) =
    let above : w < f = of_each (λ x. w < x) ws f rising.0 there in
    inl (inl (ap Base here, base_among ws f there), grind (arith, nat_tests, here, above))
base_side (w ∷ ws) f v rising (inr there) (inr among) = elim (base_side ws f v rising.1 there among) [
  | inl low ↦ inl (inr low.0, low.1)
  | inr high ↦ inr (elim high.0 [ inl same ↦ inl same | inr above ↦ inr (inr above) ], high.1)
]

-- the base weights of a level have sides, before any insertion
base_sides : (level : Level) (es : List Element) → HasSides level (map Base (base_weights level es)) []
base_sides level es =
    let ws = base_weights level es in
    let good = good_base level es in
    record {
      apart = good.apart;
      there = base_among ws (fixed_weight level) (fixed_base level es);
      sides = side good.names;
      went = λ n went. absurd (false≢true went);
    }
  where
    -- by whether it is a base weight
    side : ((k : ℕ) → IsAmong (map Base (base_weights level es)) (New k) → k < 0)
        → (w : DraftWeight) → IsAmong (map Base (base_weights level es)) w → HasSide level (map Base (base_weights level es)) [] w
    side names (Base v) among =
        base_side (base_weights level es) (fixed_weight level) v (bases_rising level es) (fixed_base level es)
        (subst (λ vs. IsAmong vs v) (bases_of_base (base_weights level es)) (among_bases (map Base (base_weights level es)) v among))
    side names (New k) among = absurd (omega (arith, names k among))

-- none of some greater weights is less
none_less : (f : ℕ) (ws : List ℕ) → AllByRecursion (λ v. f < v) ws → length (filter (λ v. nat_lt v f) ws) ≡ 0
none_less f [] above = refl
none_less f (w ∷ ws) above = go (nat_lt w f) (grind (arith, nat_tests, above.0)) (none_less f ws above.1)
  where
    -- by the test
    go : (b : Bool) → b ≡ false → length (filter (λ v. nat_lt v f) ws) ≡ 0
        → length (if b then w ∷ filter (λ v. nat_lt v f) ws else filter (λ v. nat_lt v f) ws) ≡ 0
    go true e rest = absurd (false≢true (sym e))
    go false e rest = rest

-- and each of them is greater
all_greater : (f : ℕ) (ws : List ℕ) → AllByRecursion (λ v. f < v) ws → length (filter (λ v. nat_lt f v) ws) ≡ length (map Base ws)
all_greater f [] above = refl
all_greater f (w ∷ ws) above = go (nat_lt f w) (grind (arith, nat_tests, above.0)) (all_greater f ws above.1)
  where
    -- by the test
    go : (b : Bool) → b ≡ true → length (filter (λ v. nat_lt f v) ws) ≡ length (map Base ws)
        → length (if b then w ∷ filter (λ v. nat_lt f v) ws else filter (λ v. nat_lt f v) ws) ≡ suc (length (map Base ws))
    go true e rest = ap suc rest
    go false e rest = absurd (false≢true e)

-- among rising weights those before one of them are less, and those after it are greater
base_counts : (ws : List ℕ) (f : ℕ) → IsRising ws → IsAmong ws f
    → (length (before_weight (Base f) (map Base ws)) ≡ length (filter (λ v. nat_lt v f) ws))
    × (length (after_weight (Base f) (map Base ws)) ≡ length (filter (λ v. nat_lt f v) ws))
base_counts [] f rising there = absurd there
base_counts (w ∷ ws) f rising (inl here) =
    let above : AllByRecursion (λ v. f < v) ws = subst (λ x. AllByRecursion (λ v. x < v) ws) here rising.0 in
    let is : nat_eq f w ≡ true = grind (arith, nat_tests, here) in
    let not_less : nat_lt w f ≡ false = grind (arith, nat_tests, here) in
    let not_greater : nat_lt f w ≡ false = grind (arith, nat_tests, here) in
    rw (is, not_less, not_greater) (sym (none_less f ws above), sym (all_greater f ws above))
base_counts (w ∷ ws) f rising (inr there) =
    let above : w < f = of_each (λ x. w < x) ws f rising.0 there in
    let rest = base_counts ws f rising.1 there in
    let other : nat_eq f w ≡ false = grind (arith, nat_tests, above) in
    let less : nat_lt w f ≡ true = grind (arith, nat_tests, above) in
    let not_greater : nat_lt f w ≡ false = grind (arith, nat_tests, above) in
    rw (other, less, not_greater) (ap suc rest.0, rest.1)

-- ---- Room

-- a segment has room for as many members as it has positions
places_room : (segment : Segment) (ms : List DraftWeight) → segment.below ≤ segment.top → length ms ≤ places segment → has_room segment ms ≡ true
places_room segment ms proper few = grind (arith, nat_tests)

-- the low segment does not begin above its end
low_proper : (level : Level) → (low_segment level).below ≤ (low_segment level).top
low_proper level = omega arith

-- a level has room where no side has more members than positions
room_is : (level : Level) (ms : List DraftWeight) (low high : ℕ) → length (low_members level ms) ≡ low → length (high_members level ms) ≡ high
    → level_has_room level ms ≡ true ↔ ((low ≤ places (low_segment level)) × (high ≤ places (high_segment level)))
room_is level ms low high lows highs = (
  λ room. let fit = level_places level ms room in (omega (arith, fit.0, lows), omega (arith, fit.1, highs)),
  λ fit. and_from (has_room (low_segment level) (low_members level ms)) (has_room (high_segment level) (high_members level ms))
      (places_room (low_segment level) (low_members level ms) (low_proper level) (omega (arith, fit.0, lows)))
      (places_room (high_segment level) (high_members level ms) (fixed_within level) (omega (arith, fit.1, highs))),
)

-- so room is counted
pub room_counted : RoomIsCounted
room_counted base properties relations final table well rules drafted level =
    let es = elements_of base.rows in
    let ws = base_weights level es in
    let along = counted_along level final.insertions (map Base ws) [] (base_sides level es)
    (all_anchored base properties relations final table well rules drafted level) in
    let bases = base_counts ws (fixed_weight level) (bases_rising level es) (fixed_base level es) in
    let low : length (low_members level (members_of level es final.insertions)) ≡ low_total level es final.insertions =
    along.0 ∙ ap (λ n. n + low_count level [] final.insertions) bases.0 in
    let high : length (high_members level (members_of level es final.insertions)) ≡ high_total level es final.insertions =
    along.1 ∙ ap (λ n. n + high_count level [] final.insertions) bases.1 in
    record {
      low = low;
      high = high;
      room = room_is level (members_of level es final.insertions) (low_total level es final.insertions) (high_total level es final.insertions) low high;
    }
