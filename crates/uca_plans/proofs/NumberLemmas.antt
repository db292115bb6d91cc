-- The numbers of a segment are proper, and one pass gives them.
use Rattle.std.proofs.Common.{◌≡◌, inl, inr, ℕ, suc, ◌+◌, ◌-◌, ◌<◌, ◌≤◌, List, [], ◌∷◌, ◌++◌, length, take, drop, map, min, refl, sym, ap, ap₂}
use Rattle.std.proofs.Common.{◌∙◌, arith, append_assoc}
use Rattle.std.specs.List.{range_with_len}
use Rattle.std.proofs.lemmas.List.{length-append, take_at, take-append-drop, length-take-le, length-drop, take-take}
use Rattle.std.proofs.lemmas.Bool.{cases_lt}
use Rattle.uca_plans.specs.declared.drafts.DraftWeight.{DraftWeight}
use Rattle.uca_plans.specs.declared.drafts.DraftWeight.TheVariants.{Base, New}
use Rattle.uca_plans.specs.declared.drafts.Segment.{Segment}
use Rattle.uca_plans.specs.Numbering.{pushed_up, reached, number, numbers_of, IsBaseAt, HasRoomAt, HasPlaces, NumbersAreProper}
use Rattle.uca_plans.specs.inside.OnePass.{one_further, numbers_from}

-- ---- One member more

-- the position after one more member
pub pushed_more : (least : ℕ) (xs : List DraftWeight) (m : DraftWeight) → pushed_up (least + 1) (xs ++ m ∷ []) ≡ one_further m (pushed_up least xs)
pushed_more least [] (Base w) = omega arith
pushed_more least [] (New n) = refl
pushed_more least (Base v ∷ xs) (Base w) = let more = pushed_more least xs (Base w) in let longer = length-append xs (Base w ∷ []) in omega arith
pushed_more least (Base v ∷ xs) (New n) = let more = pushed_more least xs (New n) in let longer = length-append xs (New n ∷ []) in omega arith
pushed_more least (New p ∷ xs) m = pushed_more least xs m

-- what is reached after one more member
pub reached_more : (segment : Segment) (xs : List DraftWeight) (m : DraftWeight) → reached segment (xs ++ m ∷ []) ≡ one_further m (reached segment xs)
reached_more segment xs m =
    let longer : segment.below + length (xs ++ m ∷ []) ≡ (segment.below + length xs) + 1 = omega (arith, length-append xs (m ∷ [])) in
    ap (λ least. pushed_up least (xs ++ m ∷ [])) longer ∙ pushed_more (segment.below + length xs) xs m

-- all members are above the least
pub pushed_least : (least : ℕ) (xs : List DraftWeight) → least ≤ pushed_up least xs
pushed_least least [] = omega arith
pushed_least least (Base w ∷ xs) = let more = pushed_least least xs in omega arith
pushed_least least (New n ∷ xs) = pushed_least least xs

-- more members push further up
pub pushed_further : (least : ℕ) (xs ys : List DraftWeight) → pushed_up least xs + length ys ≤ pushed_up (least + length ys) (xs ++ ys)
pushed_further least [] ys = pushed_least (least + length ys) ys
pushed_further least (Base v ∷ xs) ys = let more = pushed_further least xs ys in let longer = length-append xs ys in omega arith
pushed_further least (New p ∷ xs) ys = pushed_further least xs ys

-- after more members is reached at least as many positions more
pub reached_further : (segment : Segment) (xs ys : List DraftWeight) → reached segment xs + length ys ≤ reached segment (xs ++ ys)
reached_further segment xs ys =
    let further = pushed_further (segment.below + length xs) xs ys in
    let longer : segment.below + length (xs ++ ys) ≡ (segment.below + length xs) + length ys = omega (arith, length-append xs ys) in
    let same = ap (λ least. pushed_up least (xs ++ ys)) longer in
    omega (arith, further, same)

-- a first base member is at the first position
base_first : (w : ℕ) (xs : List DraftWeight) → IsBaseAt (Base w ∷ xs) 1 w
base_first w xs = ([], xs, refl, refl)

-- a base member is one position further after one more member
base_later : (x : DraftWeight) (xs : List DraftWeight) (j w : ℕ) → IsBaseAt xs j w → IsBaseAt (x ∷ xs) (j + 1) w
base_later x xs j w at = (x ∷ at.0, at.1, ap (λ rest. x ∷ rest) at.2, omega (arith, at.3))

-- a base member stays where it is when more follow
base_longer : (xs ys : List DraftWeight) (j w : ℕ) → IsBaseAt xs j w → IsBaseAt (xs ++ ys) j w
base_longer xs ys j w at = (at.0, at.1 ++ ys, ap (λ rest. rest ++ ys) at.2 ∙ append_assoc at.0 (Base w ∷ at.1) ys, at.3)

-- the last position is the least that leaves each base member room
pub pushed_most : (least top : ℕ) (xs : List DraftWeight) → least < top → ((j w : ℕ) → IsBaseAt xs j w → w + (length xs - j) < top)
    → pushed_up least xs < top
pushed_most least top [] low each = low
pushed_most least top (Base v ∷ xs) low each =
    let here = each 1 v (base_first v xs) in
    let later = pushed_most least top xs low (λ j w at. omega (arith, each (j + 1) w (base_later (Base v) xs j w at))) in
    omega (arith, here, later)
pushed_most least top (New n ∷ xs) low each =
    pushed_most least top xs low (λ j w at. omega (arith, each (j + 1) w (base_later (New n) xs j w at)))

-- ---- The number of a member

-- the number of the member after some others
pub number_here : (segment : Segment) (before : List DraftWeight) (m : DraftWeight) (behind : List DraftWeight)
    → number segment (before ++ m ∷ behind) (length before + 1) ≡ min (one_further m (reached segment before)) (segment.top - length behind)
number_here segment before m behind =
    let same : take (length before + 1) (before ++ m ∷ behind) ≡ before ++ m ∷ [] =
    ap (λ xs. take (length before + 1) xs) (sym (append_assoc before (m ∷ []) behind))
    ∙ take_at (before ++ m ∷ []) behind (length before + 1) (length-append before (m ∷ [])) in
    let place : reached segment (take (length before + 1) (before ++ m ∷ behind)) ≡ one_further m (reached segment before) =
    ap (λ xs. reached segment xs) same ∙ reached_more segment before m in
    let long : length (before ++ m ∷ behind) ≡ length before + suc (length behind) = length-append before (m ∷ behind) in
    let left : length (before ++ m ∷ behind) - (length before + 1) ≡ length behind = omega arith in
    rw (place, left)

-- ---- In one pass

-- the pass goes on from what was reached
pass_after : (segment : Segment) (before behind : List DraftWeight)
    → map (number segment (before ++ behind)) (range_with_len (length before + 1) (length behind)) ≡ numbers_from segment.top (reached segment before) behind
pass_after segment before [] = refl
pass_after segment before (m ∷ behind) =
    let all = before ++ m ∷ behind in
    let here = number_here segment before m behind in
    let later = pass_after segment (before ++ m ∷ []) behind in
    let same : (before ++ m ∷ []) ++ behind ≡ all = append_assoc before (m ∷ []) behind in
    let place : length (before ++ m ∷ []) + 1 ≡ (length before + 1) + 1 = omega (arith, length-append before (m ∷ [])) in
    let rest : map (number segment all) (range_with_len ((length before + 1) + 1) (length behind)) ≡ numbers_from segment.top (one_further m (reached segment before)) behind =
    ap (λ xs. map (number segment xs) (range_with_len ((length before + 1) + 1) (length behind))) (sym same)
    ∙ ap (λ i. map (number segment ((before ++ m ∷ []) ++ behind)) (range_with_len i (length behind))) (sym place)
    ∙ later
    ∙ ap (λ reach. numbers_from segment.top reach behind) (reached_more segment before m) in
    ap₂ (λ (n : ℕ) (ns : List ℕ). n ∷ ns) here rest

-- one pass gives all numbers
pub numbers_in_one_pass : (segment : Segment) (members : List DraftWeight) → numbers_of segment members ≡ numbers_from segment.top segment.below members
numbers_in_one_pass segment members =
    let start : segment.below + 0 ≡ segment.below = omega arith in
    pass_after segment [] members ∙ ap (λ reach. numbers_from segment.top reach members) start

-- ---- The order of numbers

-- what is reached at a member is at least as much further up as there are members between
pub reached_order : (segment : Segment) (members : List DraftWeight) (i j : ℕ) → i ≤ j → j ≤ length members
    → reached segment (take i members) + (j - i) ≤ reached segment (take j members)
reached_order segment members i j order within =
    let rest = drop i (take j members) in
    let long : length rest ≡ j - i = omega (arith, length-drop i (take j members), length-take-le j members within) in
    let further = reached_further segment (take i members) rest in
    let front : take i (take j members) ≡ take i members = take-take i j members order in
    let whole : take i members ++ rest ≡ take j members = ap (λ xs. xs ++ rest) (sym front) ∙ take-append-drop i (take j members) in
    rw (long, whole) at further

-- a later member has a greater number
pub number_order : (segment : Segment) (members : List DraftWeight) → HasPlaces segment members → (i j : ℕ) → i < j → j ≤ length members
    → number segment members i < number segment members j
number_order segment members places i j order within =
    let reach = reached_order segment members i j (omega arith) within in omega arith

-- a number between two others is that of a member between
less_number : (segment : Segment) (members : List DraftWeight) → HasPlaces segment members → (i m : ℕ) → i ≤ length members → m ≤ length members
    → number segment members i < number segment members m → i < m
less_number segment members places i m i_within m_within less = elim (cases_lt i m) [
  | inl before ↦ before
  | inr not_before ↦ elim (cases_lt m i) [
    | inl behind ↦ let back = number_order segment members places m i behind i_within in absurd (omega arith)
    | inr not_after ↦ let same : i ≡ m = omega arith in absurd (omega (arith, less, ap (λ n. number segment members n) same))
  ]
]

-- a base member keeps its weight where there is room, by the members before it and after it
kept_here : (segment : Segment) (before behind : List DraftWeight) (weight : ℕ)
    → HasRoomAt segment (before ++ Base weight ∷ behind) (length before + 1) weight
    → number segment (before ++ Base weight ∷ behind) (length before + 1) ≡ weight
kept_here segment before behind weight room =
    let low : segment.below + length before < weight = omega (arith, room.below) in
    let most = pushed_most (segment.below + length before) weight before low (λ j w at.
    let parts = length-append at.0 (Base w ∷ at.1) in
    let further = room.before j w (omega (arith, at.3, ap length at.2, parts)) (base_longer before (Base weight ∷ behind) j w at) in
    omega (arith, at.3, ap length at.2, parts)) in
    let long : length (before ++ Base weight ∷ behind) ≡ length before + suc (length behind) = length-append before (Base weight ∷ behind) in
    let above = room.above in
    number_here segment before (Base weight) behind ∙ omega arith

-- a base member keeps its weight where there is room
number_kept : (segment : Segment) (members : List DraftWeight) (i weight : ℕ) → IsBaseAt members i weight → HasRoomAt segment members i weight
    → number segment members i ≡ weight
number_kept segment members i weight at room =
    let here : HasRoomAt segment (at.0 ++ Base weight ∷ at.1) (length at.0 + 1) weight = rw (at.2, at.3) at room in
    rw (at.2, at.3) (kept_here segment at.0 at.1 weight here)

-- a number is above the segment's beginning
pub number_above : (segment : Segment) (members : List DraftWeight) → HasPlaces segment members → (i : ℕ) → 1 ≤ i → i ≤ length members
    → segment.below < number segment members i
number_above segment members places i first within =
    let least = pushed_least (segment.below + length (take i members)) (take i members) in
    let long = length-take-le i members within in
    omega arith

-- and not above its end
pub number_within : (segment : Segment) (members : List DraftWeight) (i : ℕ) → number segment members i ≤ segment.top
number_within segment members i = omega arith

-- numbers are proper
pub proper_numbers : NumbersAreProper
proper_numbers segment members places = record {
  above = number_above segment members places;
  within = λ i _. number_within segment members i;
  rising = number_order segment members places;
  between = λ i m j i_within m_within j_within first second.
      (less_number segment members places i m i_within m_within first, less_number segment members places m j m_within j_within second);
  kept = number_kept segment members;
}
