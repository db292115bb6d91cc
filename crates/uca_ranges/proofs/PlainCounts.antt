-- How many weights the levels of a stored key have.
use Rattle.std.proofs.Common.{◌≡◌, inl, inr, ℕ, ◌+◌, ◌*◌, ◌-◌, ◌/◌, ◌%◌, ◌<◌, ◌≤◌, List, [], ◌∷◌, ◌++◌, Bool, true, false, cond, ◌&&◌, not, nat_eq, length, get_or, drop, refl, ap, sym, ◌∙◌, arith, append-nil}
use Rattle.std.proofs.lemmas.List.{length-drop}
use Rattle.std.proofs.lemmas.Bool.Decides.{nat_tests}
use Rattle.uca_order.specs.Levels.{level_bytes, levels_bytes}
use Rattle.uca_compact.specs.Forms.{AreWeights}
use Rattle.uca_compact.specs.PlainLevels.{is_lead, letters_after, letter_count}
use Rattle.uca_ranges.specs.inside.WeightCounts.{leads, counted, weights_counted}
use Rattle.uca_ranges.proofs.StoredReads.{two_at}
use Rattle.uca_ranges.proofs.StoredRanges.{IsTail, after_first, after_tail, first_then}

-- ---- Steps of a program

-- two bytes
count_by : (out lead next : Bool) (left a b w c later : ℕ) (bytes : List ℕ) → w ≡ 256 * a + b → c ≡ counted left lead w → next ≡ leads out lead w
    → later ≡ cond (nat_eq w 0) (left - 1) left → weights_counted out lead left (a ∷ b ∷ bytes) ≡ c + weights_counted out next later bytes
count_by out lead next left a b w c later bytes is one after less =
    ap (λ (n : ℕ). counted left lead n + weights_counted out (leads out lead n) (cond (nat_eq n 0) (left - 1) left) bytes) (sym is)
    ∙ ap (λ (n : ℕ). n + weights_counted out (leads out lead w) (cond (nat_eq w 0) (left - 1) left) bytes) (sym one)
    ∙ ap (λ (t : Bool). c + weights_counted out t (cond (nat_eq w 0) (left - 1) left) bytes) (sym after)
    ∙ ap (λ (n : ℕ). c + weights_counted out next n bytes) (sym less)

pub count_step : (bytes : List ℕ) (out lead next : Bool) (at left w c later count all : ℕ) → at + 1 < length bytes → w ≡ 256 * get_or bytes at 0 + get_or bytes (at + 1) 0
    → c ≡ counted left lead w → next ≡ leads out lead w → later ≡ cond (nat_eq w 0) (left - 1) left
    → count + weights_counted out lead left (drop at bytes) ≡ all → (count + c) + weights_counted out next later (drop (at + 2) bytes) ≡ all
count_step bytes out lead next at left w c later count all within is one after less h =
    let here : weights_counted out lead left (drop at bytes) ≡ c + weights_counted out next later (drop (at + 2) bytes) =
    ap (weights_counted out lead left) (two_at bytes at within)
    ∙ count_by out lead next left (get_or bytes at 0) (get_or bytes (at + 1) 0) w c later (drop (at + 2) bytes) is one after less in
    omega (arith, here, h)

-- less than two bytes
short_count : (out lead : Bool) (left : ℕ) (bytes : List ℕ) → length bytes ≤ 1 → weights_counted out lead left bytes ≡ 0
short_count out lead left [] short = refl
short_count out lead left (a ∷ []) short = refl
short_count out lead left (a ∷ b ∷ bytes) short = absurd (omega (arith, short))

pub count_ends : (bytes : List ℕ) (out lead : Bool) (at left count all : ℕ) → length bytes ≤ at + 1
    → count + weights_counted out lead left (drop at bytes) ≡ all → count ≡ all
count_ends bytes out lead at left count all end h =
    let none : weights_counted out lead left (drop at bytes) ≡ 0 = short_count out lead left (drop at bytes) (omega (arith, length-drop at bytes, end)) in
    omega (arith, none, h)

-- ---- The levels of a key

-- nothing counts after the levels
none_left : (t : Bool) → cond t (0 - 1) 0 ≡ 0
none_left true = omega arith
none_left false = refl

after_levels : (out lead : Bool) (bytes : List ℕ) → weights_counted out lead 0 bytes ≡ 0
after_levels out lead [] = refl
after_levels out lead (a ∷ []) = refl
after_levels out lead (a ∷ b ∷ bytes) =
    let w = 256 * a + b in
    let one : counted 0 lead w ≡ 0 = refl in
    let more : weights_counted out (leads out lead w) 0 bytes ≡ 0 = after_levels out (leads out lead w) bytes in
    let step : weights_counted out lead 0 (a ∷ b ∷ bytes) ≡ 0 + weights_counted out (leads out lead w) 0 bytes =
    count_by out lead (leads out lead w) 0 a b w 0 0 bytes refl (sym one) refl (sym (none_left (nat_eq w 0))) in
    omega (arith, step, more)

-- a weight
one_counts : (out lead next : Bool) (left w c : ℕ) (bytes : List ℕ) → 0 < w → c ≡ cond (nat_eq left 1 && not lead) 1 0 → next ≡ leads out lead w
    → weights_counted out lead left (w / 256 ∷ w % 256 ∷ bytes) ≡ c + weights_counted out next left bytes
one_counts out lead next left w c bytes above one after =
    let is : w ≡ 256 * (w / 256) + w % 256 = omega arith in
    let test : nat_eq w 0 ≡ false = grind (arith, nat_tests) in
    count_by out lead next left (w / 256) (w % 256) w c left bytes is
    (one ∙ ap (λ (t : Bool). cond (nat_eq left 1 && (not t && not lead)) 1 0) (sym test)) after
    (ap (λ (t : Bool). cond t (left - 1) left) (sym test))

-- what ends a level
tail_counts : (out lead : Bool) (tail : List ℕ) → IsTail tail → weights_counted out lead 1 tail ≡ 0
tail_counts out lead tail (inl none) = ap (weights_counted out lead 1) none
tail_counts out lead tail (inr some) =
    let zero_weight : 0 ≡ 256 * 0 + 0 = omega arith in
    let last : 0 ≡ 1 - 1 = omega arith in
    let step : weights_counted out lead 1 (0 ∷ 0 ∷ some.0) ≡ 0 + weights_counted out (leads out lead 0) 0 some.0 =
    count_by out lead (leads out lead 0) 1 0 0 0 0 0 some.0 zero_weight refl refl last in
    let more : weights_counted out (leads out lead 0) 0 some.0 ≡ 0 = after_levels out (leads out lead 0) some.0 in
    ap (weights_counted out lead 1) some.1 ∙ omega (arith, step, more)

-- all weights of a level
level_counts : (ws tail : List ℕ) → AreWeights ws → IsTail tail → weights_counted false false 1 (level_bytes ws ++ tail) ≡ length ws
level_counts [] tail weights end = tail_counts false false tail end
level_counts (w ∷ ws) tail weights end =
    let more = level_counts ws tail weights.1 end in
    let step = one_counts false false false 1 w 1 (level_bytes ws ++ tail) weights.0.0 refl refl in
    omega (arith, step, more)

-- those that mostly have a weight at level 2
letters_count : (lead : Bool) (ws tail : List ℕ) → AreWeights ws → IsTail tail → weights_counted true lead 1 (level_bytes ws ++ tail) ≡ letters_after lead ws
letters_count lead [] tail weights end = tail_counts true lead tail end
letters_count true (w ∷ ws) tail weights end =
    let more = letters_count false ws tail weights.1 end in
    let step = one_counts true true false 1 w 0 (level_bytes ws ++ tail) weights.0.0 refl refl in
    omega (arith, step, more)
letters_count false (w ∷ ws) tail weights end =
    let more = letters_count (is_lead w) ws tail weights.1 end in
    let step = one_counts true false (is_lead w) 1 w 1 (level_bytes ws ++ tail) weights.0.0 refl refl in
    omega (arith, step, more)

-- a level before others
level_passed : (left later : ℕ) (ws bytes : List ℕ) → nat_eq left 1 ≡ false → later ≡ left - 1 → AreWeights ws
    → weights_counted false false left (level_bytes ws ++ (0 ∷ 0 ∷ bytes)) ≡ weights_counted false false later bytes
level_passed left later [] bytes others less weights =
    let zero_weight : 0 ≡ 256 * 0 + 0 = omega arith in
    let one : 0 ≡ counted left false 0 = ap (λ (t : Bool). cond (t && (not true && not false)) 1 0) (sym others) in
    let step : weights_counted false false left (0 ∷ 0 ∷ bytes) ≡ 0 + weights_counted false false later bytes =
    count_by false false false left 0 0 0 0 later bytes zero_weight one refl less in
    omega (arith, step)
level_passed left later (w ∷ ws) bytes others less weights =
    let more = level_passed left later ws bytes others less weights.1 in
    let one : 0 ≡ cond (nat_eq left 1 && not false) 1 0 = ap (λ (t : Bool). cond (t && not false) 1 0) (sym others) in
    let step : weights_counted false false left (w / 256 ∷ w % 256 ∷ (level_bytes ws ++ (0 ∷ 0 ∷ bytes)))
    ≡ 0 + weights_counted false false left (level_bytes ws ++ (0 ∷ 0 ∷ bytes)) =
    one_counts false false false left w 0 (level_bytes ws ++ (0 ∷ 0 ∷ bytes)) weights.0.0 one refl in
    omega (arith, step, more)

-- the first level of a key
first_bytes : (a : List ℕ) (later : List (List ℕ)) → levels_bytes (a ∷ later) ≡ level_bytes a ++ after_first later []
first_bytes a later = sym (append-nil (levels_bytes (a ∷ later))) ∙ first_then a later []

pub first_count : (a : List ℕ) (later : List (List ℕ)) → AreWeights a → weights_counted false false 1 (levels_bytes (a ∷ later)) ≡ length a
first_count a later weights =
    ap (weights_counted false false 1) (first_bytes a later) ∙ level_counts a (after_first later []) weights (after_tail later [] (inl refl))

pub first_letters : (a : List ℕ) (later : List (List ℕ)) → AreWeights a → weights_counted true false 1 (levels_bytes (a ∷ later)) ≡ letter_count a
first_letters a later weights =
    ap (weights_counted true false 1) (first_bytes a later) ∙ letters_count false a (after_first later []) weights (after_tail later [] (inl refl))

-- its second level
pub second_count : (a b : List ℕ) (later : List (List ℕ)) → AreWeights a → AreWeights b → weights_counted false false 2 (levels_bytes (a ∷ b ∷ later)) ≡ length b
second_count a b later first second = level_passed 2 1 a (levels_bytes (b ∷ later)) refl refl first ∙ first_count b later second

-- its third level
pub third_count : (a b c : List ℕ) (later : List (List ℕ)) → AreWeights a → AreWeights b → AreWeights c
    → weights_counted false false 3 (levels_bytes (a ∷ b ∷ c ∷ later)) ≡ length c
third_count a b c later first second third = level_passed 3 2 a (levels_bytes (b ∷ c ∷ later)) refl refl first ∙ second_count b c later second third
