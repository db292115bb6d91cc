-- A comparison of several levels, by those that come first and those after them.
use Rattle.std.proofs.Common.{◌≡◌, ◌≢◌, ℕ, zero, suc, ◌+◌, ◌-◌, ◌<◌, ◌≤◌, List, [], ◌∷◌, ◌++◌, length, Bool, true, false, nat_lt, refl, sym, ap, ◌∙◌, arith}
use Rattle.std.proofs.lemmas.Bool.{ltb-true, ltb-false}
use Rattle.std.specs.Bool.{◌==◌}
use Rattle.std.specs.Ordering.{ordering_index}
use Rattle.std.specs.declared.cmp.Ordering.{Ordering}
use Rattle.std.specs.declared.cmp.Ordering.TheVariants.{Less, Equal, Greater}
use Rattle.uca_weights.specs.declared.Element.{Element}
use Rattle.uca_weights.specs.declared.Weighting.{Weighting}
use Rattle.uca_comparison.specs.declared.walk.LevelsSoFar.{LevelsSoFar}
use Rattle.uca_comparison.specs.declared.walk.Walked.{Walked}
use Rattle.uca_order.specs.Levels.{Comparison, Weights as WeightsType, level_list, level_lists_from, level_count, weighted, lexicographic, decided, compare_from, compared}
use Rattle.uca_comparison.specs.Fronts.{FrontState, fetched, weights_left, is_ended}
use Rattle.uca_comparison.specs.Walks.{Stands, Walks, decided_level, compared_levels, order_at, fetched_left_at, fetched_right_at}
use Rattle.uca_comparison.specs.inside.Comparisons.{ComparesLevels}
use Rattle.uca_comparison.proofs.FrontLemmas.{nothing_on, front_ended, fetched_all}

-- ---- Lists of levels, in turn

-- what some levels say, or else those after them
abbrev pub then_levels : Comparison → Comparison → Comparison
then_levels c later = decided c.order c.level later

decided_then : (o : Ordering) (level : ℕ) (c later : Comparison) → decided o level (then_levels c later) ≡ then_levels (decided o level c) later
decided_then Less level c later = refl
decided_then Equal level c later = refl
decided_then Greater level c later = refl

pub compare_append : (level : ℕ) (left right more other : List (List ℕ)) → length left ≡ length right
    → compare_from level (left ++ more) (right ++ other) ≡ then_levels (compare_from level left right) (compare_from (level + length left) more other)
compare_append level [] [] more other same = let none : level ≡ level + 0 = omega arith in ap (λ n. compare_from n more other) none
compare_append level [] (b ∷ right) more other same = absurd (omega (arith, same))
compare_append level (a ∷ left) [] more other same = absurd (omega (arith, same))
compare_append level (a ∷ left) (b ∷ right) more other same =
    let fewer : length left ≡ length right = omega (arith, same) in
    let next : suc level + length left ≡ level + suc (length left) = omega arith in
    ap (decided (lexicographic a b) level) (compare_append (suc level) left right more other fewer)
    ∙ decided_then (lexicographic a b) level (compare_from (suc level) left right) (compare_from (suc level + length left) more other)
    ∙ ap (λ n. then_levels (decided (lexicographic a b) level (compare_from (suc level) left right)) (compare_from n more other)) next

pub length_levels : (level count : ℕ) (ws : List WeightsType) → length (level_lists_from level count ws) ≡ count
length_levels level zero ws = refl
length_levels level (suc count) ws = ap suc (length_levels (suc level) count ws)

levels_append : (level m n : ℕ) (ws : List WeightsType)
    → level_lists_from level (m + n) ws ≡ level_lists_from level m ws ++ level_lists_from (level + m) n ws
levels_append level zero n ws =
    let none : level ≡ level + 0 = omega arith in
    let all : 0 + n ≡ n = omega arith in
    ap (λ k. level_lists_from level k ws) all ∙ ap (λ l. level_lists_from l n ws) none
levels_append level (suc m) n ws =
    let one : suc m + n ≡ suc (m + n) = omega arith in
    let next : suc level + m ≡ level + suc m = omega arith in
    ap (λ k. level_lists_from level k ws) one
    ∙ ap (λ l. level_list level ws ∷ l) (levels_append (suc level) m n ws)
    ∙ ap (λ l. level_list level ws ∷ level_lists_from (suc level) m ws ++ level_lists_from l n ws) next

-- some levels and those after them
pub levels_then : (weighting : Weighting) (es fs : List Element) (level m n : ℕ)
    → compared_levels weighting es fs level (m + n) ≡ then_levels (compared_levels weighting es fs level m) (compared_levels weighting es fs (level + m) n)
levels_then weighting es fs level m n =
    let vs = weighted weighting es in
    let ws = weighted weighting fs in
    let count = length_levels level m vs in
    ap (λ l. compare_from level l (level_lists_from level (m + n) ws)) (levels_append level m n vs)
    ∙ ap (compare_from level (level_lists_from level m vs ++ level_lists_from (level + m) n vs)) (levels_append level m n ws)
    ∙ compare_append level (level_lists_from level m vs) (level_lists_from level m ws) (level_lists_from (level + m) n vs) (level_lists_from (level + m) n ws)
    (count ∙ sym (length_levels level m ws))
    ∙ ap (λ k. then_levels (compared_levels weighting es fs level m) (compare_from (level + k) (level_lists_from (level + m) n vs) (level_lists_from (level + m) n ws))) count

-- levels that are equal
pub all_equal : (weighting : Weighting) (es fs : List Element) (first n : ℕ)
    → ((level : ℕ) → first ≤ level → level < first + n → order_at weighting es fs level ≡ Equal)
    → compared_levels weighting es fs first n ≡ record { order = Equal; level = 0 }
all_equal weighting es fs first zero equal = refl
all_equal weighting es fs first (suc n) equal =
    ap (λ o. decided o first (compared_levels weighting es fs (suc first) n)) (equal first (omega arith) (omega arith))
    ∙ all_equal weighting es fs (suc first) n (λ level low high. equal level (omega (arith, low)) (omega (arith, high)))

-- a level that differs decides
pub decided_here : (order : Ordering) (level : ℕ) (later : Comparison) → order ≢ Equal
    → decided order level later ≡ record { order = order; level = level }
decided_here Less level later differ = refl
decided_here Equal level later differ = absurd (differ refl)
decided_here Greater level later differ = refl

-- levels that are equal before one that differs
pub then_differs : (weighting : Weighting) (es fs : List Element) (first n m : ℕ) (order : Ordering)
    → ((level : ℕ) → first ≤ level → level < first + n → order_at weighting es fs level ≡ Equal) → order ≡ order_at weighting es fs (first + n) → order ≢ Equal
    → compared_levels weighting es fs first (n + suc m) ≡ record { order = order; level = first + n }
then_differs weighting es fs first n m order equal is differ =
    levels_then weighting es fs first n (suc m)
    ∙ ap (λ c. then_levels c (compared_levels weighting es fs (first + n) (suc m))) (all_equal weighting es fs first n equal)
    ∙ ap (λ o. decided o (first + n) (compared_levels weighting es fs (suc (first + n)) m)) (sym is)
    ∙ decided_here order (first + n) (compared_levels weighting es fs (suc (first + n)) m) differ

-- ---- What a walk returns

-- it has ended, or its first level differs
pub record Ends (left right : FrontState) (s : LevelsSoFar) : Type 0 where
  pub ends : (s.first ≤ s.through) → (is_ended left ≡ true) × (is_ended right ≡ true)

-- all levels so far are equal
so_far : (weighting : Weighting) (es fs : List Element) (left right : FrontState) (s : LevelsSoFar) → Stands weighting es fs left right s
    → Ends left right s
    → (level : ℕ) → s.first ≤ level → level ≤ s.through → order_at weighting es fs level ≡ Equal
so_far weighting es fs left right s stands ends level low high =
    let both = ends.ends (omega (arith, low, high)) in
    (nothing_on (weights_left weighting level left) (weights_left weighting level right) left.passed right.passed (order_at weighting es fs level)
    (fetched_left_at weighting es fs level) (fetched_right_at weighting es fs level)
    (front_ended weighting level left both.0) (front_ended weighting level right both.1) (stands.through level low high)).0

-- the counts are those of the first level
counts_end : (weighting : Weighting) (es fs : List Element) (left right : FrontState) (s : LevelsSoFar)
    → Stands weighting es fs left right s → Ends left right s
    → (b : Bool) → nat_lt s.through s.first ≡ b → (fetched left ≡ fetched_left_at weighting es fs s.first) × (fetched right ≡ fetched_right_at weighting es fs s.first)
counts_end weighting es fs left right s stands ends true less = stands.counts (ltb-true s.through s.first less)
counts_end weighting es fs left right s stands ends false more =
    let some : s.first ≤ s.through = omega (arith, ltb-false s.through s.first more) in
    let both = ends.ends some in
    let none = nothing_on (weights_left weighting s.first left) (weights_left weighting s.first right) left.passed right.passed (order_at weighting es fs s.first)
    (fetched_left_at weighting es fs s.first) (fetched_right_at weighting es fs s.first)
    (front_ended weighting s.first left both.0) (front_ended weighting s.first right both.1) (stands.through s.first (omega arith) some) in
    (fetched_all left both.0 ∙ none.1, fetched_all right both.1 ∙ none.2)

-- the levels of the walk
levels_end : (weighting : Weighting) (es fs : List Element) (left right : FrontState) (s : LevelsSoFar)
    → Stands weighting es fs left right s → Ends left right s
    → (b : Bool) → nat_lt s.through s.last ≡ b
    → compared_levels weighting es fs s.first (suc s.last - s.first) ≡ record { order = s.order; level = decided_level s.through s.last }
levels_end weighting es fs left right s stands ends true less =
    let up = stands.within in
    let below : s.through < s.last = ltb-true s.through s.last less in
    let said = stands.decided below in
    let n = suc s.through - s.first in
    let m = s.last - suc s.through in
    let at : s.first + n ≡ suc s.through = omega (arith, up) in
    let all : suc s.last - s.first ≡ n + suc m = omega (arith, up, below) in
    rw less (ap (compared_levels weighting es fs s.first) all
    ∙ then_differs weighting es fs s.first n m s.order (λ level low high. so_far weighting es fs left right s stands ends level low (omega (arith, high, at)))
    (said.0 ∙ ap (order_at weighting es fs) (sym at)) said.1
    ∙ ap (λ k. record { order = s.order; level = k }) at)
levels_end weighting es fs left right s stands ends false more =
    let up = stands.within in
    let same : s.through ≡ s.last = omega (arith, up, ltb-false s.through s.last more) in
    let within : s.first + (suc s.last - s.first) ≡ suc s.through = omega (arith, up, same) in
    rw more (all_equal weighting es fs s.first (suc s.last - s.first) (λ level low high. so_far weighting es fs left right s stands ends level low (omega (arith, high, within)))
    ∙ ap (λ o. record { order = o; level = 0 }) (sym (stands.equal same)))

pub walk_answers : (weighting : Weighting) (es fs : List Element) (left right : FrontState) (s : LevelsSoFar) (first last level f g : ℕ)
    → Stands weighting es fs left right s → Ends left right s
    → s.first ≡ first → s.last ≤ last → level ≡ decided_level s.through s.last → f ≡ fetched left → g ≡ fetched right
    → Walks weighting first last es fs (record { order = s.order; level = level; last = s.last; fetched_left = f; fetched_right = g })
walk_answers weighting es fs left right s first last level f g stands ends from to is one other =
    let up = stands.within in
    let all = levels_end weighting es fs left right s stands ends (nat_lt s.through s.last) refl in
    let counts = counts_end weighting es fs left right s stands ends (nat_lt s.through s.first) refl in
    record {
      within = (omega (arith, up, from), to);
      order_is = ap (λ c. c.order) (sym all) ∙ ap (λ n. (compared_levels weighting es fs n (suc s.last - n)).order) from;
      level_is = is ∙ ap (λ c. c.level) (sym all) ∙ ap (λ n. (compared_levels weighting es fs n (suc s.last - n)).level) from;
      left_is = one ∙ counts.0 ∙ ap (fetched_left_at weighting es fs) from;
      right_is = other ∙ counts.1 ∙ ap (fetched_right_at weighting es fs) from;
    }

-- ---- All levels

-- the levels of another walk after those of the first
pub next_levels : (weighting : Weighting) (es fs : List Element) (last first : ℕ) (w n : Walked) → Walks weighting 1 last es fs w → w.order ≡ Equal
    → first ≡ w.last + 1 → Walks weighting first last es fs n
    → Walks weighting 1 last es fs (record { order = n.order; level = n.level; last = n.last; fetched_left = w.fetched_left; fetched_right = w.fetched_right })
next_levels weighting es fs last first w n one equal from more =
    let k = suc n.last - first in
    let all : suc n.last - 1 ≡ w.last + k = omega (arith, from, more.within, one.within) in
    let before : suc w.last - 1 ≡ w.last = omega arith in
    let next : 1 + w.last ≡ first = omega (arith, from) in
    let equal_before : (compared_levels weighting es fs 1 w.last).order ≡ Equal =
    ap (λ m. (compared_levels weighting es fs 1 m).order) (sym before) ∙ sym one.order_is ∙ equal in
    let whole : compared_levels weighting es fs 1 (suc n.last - 1) ≡ compared_levels weighting es fs first k =
    ap (compared_levels weighting es fs 1) all
    ∙ levels_then weighting es fs 1 w.last k
    ∙ ap (λ o. decided o (compared_levels weighting es fs 1 w.last).level (compared_levels weighting es fs (1 + w.last) k)) equal_before
    ∙ ap (λ m. compared_levels weighting es fs m k) next in
    record {
      within = (omega (arith, from, more.within), omega (arith, more.within));
      order_is = more.order_is ∙ ap (λ c. c.order) (sym whole);
      level_is = more.level_is ∙ ap (λ c. c.level) (sym whole);
      left_is = one.left_is;
      right_is = one.right_is;
    }

-- what some levels say that differ, all say
differ_all : (c later : Comparison) → c.order ≢ Equal → then_levels c later ≡ c
differ_all c later differ = decided_here c.order c.level later differ

-- some level differs, or all were walked
pub all_levels : (weighting : Weighting) (es fs : List Element) (w : Walked) → Walks weighting 1 (level_count weighting) es fs w
    → (w.order ≡ Equal → level_count weighting ≤ w.last)
    → ComparesLevels weighting es fs w
all_levels weighting es fs w one ends =
    let count = level_count weighting in
    let before : suc w.last - 1 ≡ w.last = omega arith in
    let some = compared_levels weighting es fs 1 w.last in
    let order : w.order ≡ some.order = one.order_is ∙ ap (λ m. (compared_levels weighting es fs 1 m).order) before in
    let level : w.level ≡ some.level = one.level_is ∙ ap (λ m. (compared_levels weighting es fs 1 m).level) before in
    let all = whole w.order refl order in
    record {
      order_is = order ∙ ap (λ c. c.order) all;
      level_is = level ∙ ap (λ c. c.level) all;
      left_is = one.left_is;
      right_is = one.right_is;
    }
  where
    further : (k : ℕ) → level_count weighting ≡ w.last + k → (compared_levels weighting es fs 1 w.last).order ≢ Equal
        → compared_levels weighting es fs 1 w.last ≡ compared weighting es fs
    further k is differ =
        sym (differ_all (compared_levels weighting es fs 1 w.last) (compared_levels weighting es fs (1 + w.last) k) differ)
        ∙ sym (levels_then weighting es fs 1 w.last k) ∙ ap (compared_levels weighting es fs 1) (sym is)

    whole : (o : Ordering) → w.order ≡ o → w.order ≡ (compared_levels weighting es fs 1 w.last).order → compared_levels weighting es fs 1 w.last ≡ compared weighting es fs
    whole Less o order = further (level_count weighting - w.last) (omega (arith, one.within)) (λ e. let no : Less ≡ Equal = sym o ∙ order ∙ e in absurd cc)
    whole Equal o order = let same : w.last ≡ level_count weighting = omega (arith, one.within, ends o) in ap (compared_levels weighting es fs 1) same
    whole Greater o order = further (level_count weighting - w.last) (omega (arith, one.within)) (λ e. let no : Greater ≡ Equal = sym o ∙ order ∙ e in absurd cc)

-- ---- Tests

pub is_equal : (o : Ordering) → true ≡ (ordering_index o == 1) → o ≡ Equal
is_equal Less is = absurd cc
is_equal Equal is = refl
is_equal Greater is = absurd cc

pub not_equal : (o : Ordering) → false ≡ (ordering_index o == 1) → o ≢ Equal
not_equal Less is = λ e. absurd cc
not_equal Equal is = absurd cc
not_equal Greater is = λ e. absurd cc
