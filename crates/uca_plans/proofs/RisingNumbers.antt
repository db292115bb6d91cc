-- The numbers of a level with room rise along its list.
use Rattle.std.proofs.Common.{◌≡◌, inl, inr, ℕ, zero, suc, ◌+◌, ◌-◌, ◌<◌, ◌≤◌, true, List, [], ◌∷◌, ◌++◌, length, map, sym, ap}
use Rattle.std.proofs.Common.{arith}
use Rattle.std.proofs.lemmas.Bool.{and_parts}
use Rattle.std.proofs.lemmas.Bool.Decides.{nat_tests}
use Rattle.std.proofs.lemmas.List.{length-append}
use Rattle.std.proofs.lemmas.List.FromFn.{length-map-range_with_len}
use Rattle.std.specs.List.{AllByRecursion, range_with_len}
use Rattle.uca_weights.specs.declared.Level.{Level}
use Rattle.uca_weights.specs.declared.Level.TheVariants.{One, Two, Three}
use Rattle.uca_weights.proofs.Lists.{each_weaker}
use Rattle.uca_plans.specs.declared.drafts.DraftWeight.{DraftWeight}
use Rattle.uca_plans.specs.declared.drafts.DraftWeight.TheVariants.{Base}
use Rattle.uca_plans.specs.declared.drafts.Segment.{Segment}
use Rattle.uca_plans.specs.Numbering.{number, numbers_of, HasPlaces}
use Rattle.uca_plans.specs.Lists.{fixed_weight, top_weight, low_segment, high_segment, before_weight, low_members, high_members, has_room}
use Rattle.uca_plans.specs.Lists.{level_has_room, level_numbers, number_in}
use Rattle.uca_plans.specs.ListLaws.{IsRising, IsAmong, StandsBefore, AreApart, NumbersRiseAlongLists}
use Rattle.uca_plans.proofs.ListMembers.{same_or_other, same_itself, first_among, second_among, among_same, weight_split}
use Rattle.uca_plans.proofs.InsertionLemmas.{later_among}
use Rattle.uca_plans.proofs.NumberLemmas.{number_above, number_within, number_order}

-- ---- Numbers of one segment

-- what is true of a function's value at each of some numbers in a row is true of each of these values
each_counted : (P : ℕ → Type 0) (f : ℕ → ℕ) (from n : ℕ) → ((i : ℕ) → from ≤ i → i < from + n → P (f i)) → AllByRecursion P (map f (range_with_len from n))
each_counted P f from zero each = tt
each_counted P f from (suc n) each =
    (each from (omega arith) (omega arith), each_counted P f (from + 1) n (λ i first last. each i (omega (arith, first)) (omega (arith, last))))

-- where the function rises along the numbers, its values rise
rising_counted : (f : ℕ → ℕ) (from n : ℕ) → ((i j : ℕ) → from ≤ i → i < j → j < from + n → f i < f j) → IsRising (map f (range_with_len from n))
rising_counted f from zero rise = tt
rising_counted f from (suc n) rise = (
  each_counted (λ v. f from < v) f (from + 1) n (λ i first last. rise from i (omega arith) (omega (arith, first)) (omega (arith, last))),
  rising_counted f (from + 1) n (λ i j first order last. rise i j (omega (arith, first)) order (omega (arith, last))),
)

-- there is a number for each member
pub numbers_length : (segment : Segment) (ms : List DraftWeight) → length (numbers_of segment ms) ≡ length ms
numbers_length segment ms = length-map-range_with_len (number segment ms) 1 (length ms)

-- in a segment with room numbers are its positions
pub segment_numbers : (segment : Segment) (ms : List DraftWeight) → HasPlaces segment ms
    → AllByRecursion (λ n. (segment.below < n) × (n ≤ segment.top)) (numbers_of segment ms)
segment_numbers segment ms room =
    each_counted (λ n. (segment.below < n) × (n ≤ segment.top)) (number segment ms) 1 (length ms)
    (λ i first last. (number_above segment ms room i first (omega (arith, last)), number_within segment ms i))

-- and rise
pub numbers_rising : (segment : Segment) (ms : List DraftWeight) → HasPlaces segment ms → IsRising (numbers_of segment ms)
numbers_rising segment ms room =
    rising_counted (number segment ms) 1 (length ms) (λ i j first order last. number_order segment ms room i j order (omega (arith, last)))

-- ---- Joined lists

-- what is true of each of two lists and of one between is true of each
pub each_joined : {A : Type 0} (P : A → Type 0) (xs : List A) (x : A) (ys : List A) → AllByRecursion P xs → P x → AllByRecursion P ys
    → AllByRecursion P (xs ++ x ∷ ys)
each_joined P [] x ys first it second = (it, second)
each_joined P (y ∷ xs) x ys first it second = (first.0, each_joined P xs x ys first.1 it second)

-- rising weights below one, that one, and rising weights above it rise
pub rising_joined : (xs : List ℕ) (x : ℕ) (ys : List ℕ) → IsRising xs → AllByRecursion (λ v. v < x) xs → AllByRecursion (λ v. x < v) ys → IsRising ys
    → IsRising (xs ++ x ∷ ys)
rising_joined [] x ys first below above second = (above, second)
rising_joined (y ∷ xs) x ys first below above second = (
  each_joined (λ v. y < v) xs x ys first.0 below.0 (each_weaker (λ v. x < v) (λ v. y < v) (λ v h. omega (arith, below.0, h)) ys above),
  rising_joined xs x ys first.1 below.1 above second,
)

-- ---- The number of a member

-- what is true of each number is true of a member's
pub number_each : (P : ℕ → Type 0) (ms : List DraftWeight) (ns : List ℕ) (w : DraftWeight) → length ns ≡ length ms → IsAmong ms w
    → AllByRecursion P ns → P (number_in ms ns w)
number_each P [] ns w same among all = absurd among
number_each P (m ∷ ms) [] w same among all = absurd (omega arith)
number_each P (m ∷ ms) (n ∷ ns) w same among all = elim (same_or_other w m) [
  | inl here ↦ rw here.0 all.0
  | inr other ↦ rw other.0 (number_each P ms ns w (omega arith) (later_among m ms w other.1 among) all.1)
]

-- a bound of all numbers bounds that of any weight
pub number_bound : (top : ℕ) (ms : List DraftWeight) (ns : List ℕ) (w : DraftWeight) → AllByRecursion (λ n. n ≤ top) ns → number_in ms ns w ≤ top
number_bound top [] ns w all = omega arith
number_bound top (m ∷ ms) [] w all = omega arith
number_bound top (m ∷ ms) (n ∷ ns) w all = elim (same_or_other w m) [
  | inl here ↦ rw here.0 all.0
  | inr other ↦ rw other.0 (number_bound top ms ns w all.1)
]

-- rising numbers rise along a list in which none comes twice
pub numbers_in_order : (ms : List DraftWeight) (ns : List ℕ) (v w : DraftWeight) → length ns ≡ length ms → AreApart ms → IsRising ns
    → StandsBefore ms v w
    → number_in ms ns v < number_in ms ns w
numbers_in_order [] ns v w same apart rising stands = absurd stands
numbers_in_order (m ∷ ms) [] v w same apart rising stands = absurd (omega arith)
numbers_in_order (m ∷ ms) (n ∷ ns) v w same apart rising (inl here) = elim (same_or_other w m) [
  | inl twice ↦ absurd (apart.0 (among_same ms w m twice.1 here.1))
  | inr other ↦ rw (same_itself v m (sym here.0), other.0) (number_each (λ k. n < k) ms ns w (omega arith) here.1 rising.0)
]
numbers_in_order (m ∷ ms) (n ∷ ns) v w same apart rising (inr there) = elim (same_or_other v m) [
  | inl twice ↦ absurd (apart.0 (among_same ms v m twice.1 (first_among ms v w there)))
  | inr first ↦ elim (same_or_other w m) [
    | inl twice ↦ absurd (apart.0 (among_same ms w m twice.1 (second_among ms v w there)))
    | inr second ↦ rw (first.0, second.0) (numbers_in_order ms ns v w (omega arith) apart.1 rising.1 there)
  ]
]

-- the number at the position of a member
pub number_at : (w : DraftWeight) (ms : List DraftWeight) (lows : List ℕ) (n : ℕ) (highs : List ℕ) → IsAmong ms w
    → length lows ≡ length (before_weight w ms)
    → number_in ms (lows ++ n ∷ highs) w ≡ n
number_at w [] lows n highs among same = absurd among
number_at w (m ∷ ms) [] n highs among same = elim (same_or_other w m) [
  | inl here ↦ rw here.0
  | inr other ↦ let none : 0 ≡ length (m ∷ before_weight w ms) = rw other.0 at same in absurd (omega arith)
]
number_at w (m ∷ ms) (low ∷ lows) n highs among same = elim (same_or_other w m) [
  | inl here ↦ let none : length (low ∷ lows) ≡ 0 = rw here.0 at same in absurd (omega arith)
  | inr other ↦
      let long : length (low ∷ lows) ≡ length (m ∷ before_weight w ms) = rw other.0 at same in
      rw other.0 (number_at w ms lows n highs (later_among m ms w other.1 among) (omega arith))
]

-- ---- The numbers of a level

-- a segment with room has positions for its members
pub room_places : (segment : Segment) (ms : List DraftWeight) → has_room segment ms ≡ true → segment.below + length ms ≤ segment.top
room_places segment ms room = grind (arith, nat_tests)

-- the positions of a level's segments
pub level_places : (level : Level) (ms : List DraftWeight) → level_has_room level ms ≡ true
    → ((low_segment level).below + length (low_members level ms) ≤ (low_segment level).top)
    × ((high_segment level).below + length (high_members level ms) ≤ (high_segment level).top)
level_places level ms room =
    let low = has_room (low_segment level) (low_members level ms) in
    let high = has_room (high_segment level) (high_members level ms) in
    let both = and_parts low high room in
    (room_places (low_segment level) (low_members level ms) both.0, room_places (high_segment level) (high_members level ms) both.1)

-- the numbers of the lower members, and of the higher ones
abbrev pub lows : Level → List DraftWeight → List ℕ
lows level ms = numbers_of (low_segment level) (low_members level ms)

abbrev pub highs : Level → List DraftWeight → List ℕ
highs level ms = numbers_of (high_segment level) (high_members level ms)

-- the fixed weight is not above the top
pub fixed_within : (level : Level) → fixed_weight level ≤ top_weight level
fixed_within One = omega arith
fixed_within Two = omega arith
fixed_within Three = omega arith

-- with room the numbers of the lower members are between 0 and the fixed weight
pub low_numbers : (level : Level) (ms : List DraftWeight) → level_has_room level ms ≡ true
    → AllByRecursion (λ n. (0 < n) × (n < fixed_weight level)) (lows level ms)
low_numbers level ms room =
    each_weaker (λ n. (0 < n) × (n ≤ fixed_weight level - 1)) (λ n. (0 < n) × (n < fixed_weight level)) (λ n h. (h.0, omega (arith, h.0, h.1)))
    (lows level ms) (segment_numbers (low_segment level) (low_members level ms) (level_places level ms room).0)

-- and those of the higher members above the fixed weight, up to the top
pub high_numbers : (level : Level) (ms : List DraftWeight) → level_has_room level ms ≡ true
    → AllByRecursion (λ n. (fixed_weight level < n) × (n ≤ top_weight level)) (highs level ms)
high_numbers level ms room =
    let high = (and_parts (has_room (low_segment level) (low_members level ms)) (has_room (high_segment level) (high_members level ms)) room).1 in
    segment_numbers (high_segment level) (high_members level ms) (room_places (high_segment level) (high_members level ms) high)

-- with room the numbers of a level rise
pub level_rising : (level : Level) (ms : List DraftWeight) → level_has_room level ms ≡ true → IsRising (level_numbers level ms)
level_rising level ms room =
    let both = and_parts (has_room (low_segment level) (low_members level ms)) (has_room (high_segment level) (high_members level ms)) room in
    let low = room_places (low_segment level) (low_members level ms) both.0 in
    let high = room_places (high_segment level) (high_members level ms) both.1 in
    rising_joined (lows level ms) (fixed_weight level) (highs level ms)
    (numbers_rising (low_segment level) (low_members level ms) low)
    (each_weaker (λ n. (0 < n) × (n < fixed_weight level)) (λ n. n < fixed_weight level) (λ n h. h.1)
    (lows level ms) (low_numbers level ms room))
    (each_weaker (λ n. (fixed_weight level < n) × (n ≤ top_weight level)) (λ n. fixed_weight level < n) (λ n h. h.0)
    (highs level ms) (high_numbers level ms room))
    (numbers_rising (high_segment level) (high_members level ms) high)

-- with room the numbers of a level are not above its top
pub level_within : (level : Level) (ms : List DraftWeight) → level_has_room level ms ≡ true
    → AllByRecursion (λ n. n ≤ top_weight level) (level_numbers level ms)
level_within level ms room =
    let fixed = fixed_within level in
    each_joined (λ n. n ≤ top_weight level) (lows level ms) (fixed_weight level) (highs level ms)
    (each_weaker (λ n. (0 < n) × (n < fixed_weight level)) (λ n. n ≤ top_weight level) (λ n h. omega (arith, fixed, h.1))
    (lows level ms) (low_numbers level ms room))
    fixed
    (each_weaker (λ n. (fixed_weight level < n) × (n ≤ top_weight level)) (λ n. n ≤ top_weight level) (λ n h. h.1)
    (highs level ms) (high_numbers level ms room))

-- a level has a number for each member
pub level_length : (level : Level) (ms : List DraftWeight) → IsAmong ms (Base (fixed_weight level)) → length (level_numbers level ms) ≡ length ms
level_length level ms among =
    let low = numbers_length (low_segment level) (low_members level ms) in
    let high = numbers_length (high_segment level) (high_members level ms) in
    let numbers = length-append (lows level ms) (fixed_weight level ∷ highs level ms) in
    let members = length-append (low_members level ms) (Base (fixed_weight level) ∷ high_members level ms) in
    let split = ap length (weight_split (Base (fixed_weight level)) ms among) in
    omega arith

-- the fixed weight keeps its number
pub level_fixed : (level : Level) (ms : List DraftWeight) → IsAmong ms (Base (fixed_weight level))
    → number_in ms (level_numbers level ms) (Base (fixed_weight level)) ≡ fixed_weight level
level_fixed level ms among =
    number_at (Base (fixed_weight level)) ms (lows level ms) (fixed_weight level) (highs level ms)
    among (numbers_length (low_segment level) (low_members level ms))

-- numbers rise along the list of a level
pub rise_along_lists : NumbersRiseAlongLists
rise_along_lists level members apart among room =
    let same = level_length level members among in
    record {
      same = same;
      rising = λ v w. numbers_in_order members (level_numbers level members) v w same apart (level_rising level members room);
      fixed = level_fixed level members among;
      within = λ w. number_bound (top_weight level) members (level_numbers level members) w (level_within level members room);
    }
