-- The numbers that the members of a level's list get within a segment, and the laws of them.
use Rattle.std.specs.Prelude.{◌≡◌, ℕ, ◌+◌, ◌-◌, ◌<◌, ◌≤◌, List, [], ◌∷◌, ◌++◌, length, take, map, min, max}
use Rattle.std.specs.List.{range_with_len}
use Rattle.uca_plans.specs.declared.drafts.DraftWeight.{DraftWeight}
use Rattle.uca_plans.specs.declared.drafts.DraftWeight.TheVariants.{Base, New}
use Rattle.uca_plans.specs.declared.drafts.Segment.{Segment}

-- ---- The numbers

-- the greatest of `least` and, for each base member, its weight plus the number of members after it
abbrev pub pushed_up : ℕ → List DraftWeight → ℕ
pushed_up least [] = least
pushed_up least (Base weight ∷ after) = max (weight + length after) (pushed_up least after)
pushed_up least (New _ ∷ after) = pushed_up least after

-- The position of the last of some members, if none of them is below its weight. After the weight below the segment,
-- and after the weight of each base member, there is a position for each member that follows.
abbrev pub reached : Segment → List DraftWeight → ℕ
reached segment members = pushed_up (segment.below + length members) members

-- the number of the i-th member, counted from 1: as far up, or as much lower as the members after it need
abbrev pub number : Segment → List DraftWeight → ℕ → ℕ
number segment members i = min (reached segment (take i members)) (segment.top - (length members - i))

-- the numbers of all members, in their order
abbrev pub numbers_of : Segment → List DraftWeight → List ℕ
numbers_of segment members = map (number segment members) (range_with_len 1 (length members))

-- ---- The laws

-- the i-th member, counted from 1, is the base weight
abbrev pub IsBaseAt : List DraftWeight → ℕ → ℕ → Type 0
IsBaseAt members i weight = (before : List DraftWeight) × (after : List DraftWeight) × (members ≡ before ++ Base weight ∷ after) × (i ≡ length before + 1)

-- there is room for the i-th member at the weight: below it for those before, and above it for those after
pub record HasRoomAt (segment : Segment) (members : List DraftWeight) (i weight : ℕ) : Type 0 where
  pub below : segment.below + i ≤ weight
  pub before : (j earlier : ℕ) → j < i → IsBaseAt members j earlier → earlier + (i - j) ≤ weight
  pub above : weight + (length members - i) ≤ segment.top

-- What is true of the numbers if there are enough positions. They are positions of the segment, one for each member, in
-- the order of the members. No other member's number lies between those of neighbours. A base weight keeps its number
-- if there is room.
pub record AreNumbers (segment : Segment) (members : List DraftWeight) : Type 0 where
  pub above : (i : ℕ) → 1 ≤ i → i ≤ length members → segment.below < number segment members i
  pub within : (i : ℕ) → i ≤ length members → number segment members i ≤ segment.top
  pub rising : (i j : ℕ) → i < j → j ≤ length members → number segment members i < number segment members j
  pub between : (i m j : ℕ) → i ≤ length members → m ≤ length members → j ≤ length members → number segment members i < number segment members m → number segment members m < number segment members j → (i < m) × (m < j)
  pub kept : (i weight : ℕ) → IsBaseAt members i weight → HasRoomAt segment members i weight → number segment members i ≡ weight

-- the members have positions in the segment
abbrev pub HasPlaces : Segment → List DraftWeight → Type 0
HasPlaces segment members = segment.below + length members ≤ segment.top

abbrev pub NumbersAreProper : Type 0
NumbersAreProper = (segment : Segment) (members : List DraftWeight) → HasPlaces segment members → AreNumbers segment members
