-- A walk over two texts goes on from front to front.
use Rattle.std.proofs.Common.{◌≡◌, ◌≢◌, ℕ, suc, ◌+◌, ◌-◌, ◌<◌, ◌≤◌, List, [], length, Bool, true, false, nat_eq, map, refl, ap, arith, sym, ◌∙◌, subst, ◌⊎◌, inl, inr, Some, eq-eqb}
use Rattle.std.proofs.lemmas.Bool.{eqb-true}
use Rattle.std.specs.Ordering.{nat_cmp}
use Rattle.std.specs.declared.cmp.Ordering.{Ordering}
use Rattle.std.specs.declared.cmp.Ordering.TheVariants.{Less, Equal, Greater}
use Rattle.std.proofs.lemmas.Cmp.{ranked, by_ranked}
use Rattle.uca_weights.specs.declared.Element.{Element}
use Rattle.uca_weights.specs.declared.Weighting.{Weighting}
use Rattle.uca_comparison.specs.declared.walk.Step.{Step}
use Rattle.uca_comparison.specs.declared.walk.Step.TheVariants.{Either, Both, Left, Right}
use Rattle.uca_comparison.specs.declared.walk.LevelsSoFar.{LevelsSoFar}
use Rattle.uca_order.specs.Levels.{weight_at}
use Rattle.uca_order.proofs.WeightLemmas.{weighted_after-follows}
use Rattle.uca_comparison.specs.Fronts.{FrontState, weights_left, weight_here, front_weights, first_of, is_ended, begun, advanced, fetched}
use Rattle.uca_comparison.specs.Walks.{AllowsWith, Allows, IsTaken, Differs, GoOn, GoesOn, Stands, together, order_at, weights_of_level, fetched_left_at, fetched_right_at}
use Rattle.uca_comparison.proofs.FrontLemmas.{weight_is, behind, with_first, left_on, right_on, both_on, decides, front_count, front_ended, advanced_weights, advanced_count, fewer_left, no_more_left}

-- ---- Steps that levels allow together

is_step : (t s : Step) → Some t ≡ Some s → t ≡ s
is_step t s is = cc

first_allowed : (a b s : Step) (x y v w : ℕ) (left right : Bool) → together a b ≡ Some s → AllowsWith a x y left right
    → AllowsWith b v w left right → AllowsWith s x y left right
first_allowed Either Either s x y v w left right is one two = subst (λ t. AllowsWith t x y left right) (is_step Either s is) (one)
first_allowed Either Both s x y v w left right is one two = subst (λ t. AllowsWith t x y left right) (is_step Both s is) (one.0 ∙ sym one.1)
first_allowed Either Left s x y v w left right is one two = subst (λ t. AllowsWith t x y left right) (is_step Left s is) ((one.0, two.1))
first_allowed Either Right s x y v w left right is one two = subst (λ t. AllowsWith t x y left right) (is_step Right s is) ((one.1, two.1))
first_allowed Both Either s x y v w left right is one two = subst (λ t. AllowsWith t x y left right) (is_step Both s is) (one)
first_allowed Both Both s x y v w left right is one two = subst (λ t. AllowsWith t x y left right) (is_step Both s is) (one)
first_allowed Both Left s x y v w left right is one two = absurd cc
first_allowed Both Right s x y v w left right is one two = absurd cc
first_allowed Left Either s x y v w left right is one two = subst (λ t. AllowsWith t x y left right) (is_step Left s is) (one)
first_allowed Left Both s x y v w left right is one two = absurd cc
first_allowed Left Left s x y v w left right is one two = subst (λ t. AllowsWith t x y left right) (is_step Left s is) (one)
first_allowed Left Right s x y v w left right is one two = absurd cc
first_allowed Right Either s x y v w left right is one two = subst (λ t. AllowsWith t x y left right) (is_step Right s is) (one)
first_allowed Right Both s x y v w left right is one two = absurd cc
first_allowed Right Left s x y v w left right is one two = absurd cc
first_allowed Right Right s x y v w left right is one two = subst (λ t. AllowsWith t x y left right) (is_step Right s is) (one)

turned : (a b : Step) → together b a ≡ together a b
turned Either Either = refl
turned Either Both = refl
turned Either Left = refl
turned Either Right = refl
turned Both Either = refl
turned Both Both = refl
turned Both Left = refl
turned Both Right = refl
turned Left Either = refl
turned Left Both = refl
turned Left Left = refl
turned Left Right = refl
turned Right Either = refl
turned Right Both = refl
turned Right Left = refl
turned Right Right = refl

second_allowed : (a b s : Step) (x y v w : ℕ) (left right : Bool) → together a b ≡ Some s → AllowsWith a v w left right
    → AllowsWith b x y left right → AllowsWith s x y left right
second_allowed a b s x y v w left right is one two = first_allowed b a s x y v w left right (turned a b ∙ is) two one

-- either step is allowed where another is
either_allowed : (a b s : Step) (x y : ℕ) (left right : Bool) → a ≡ Either → together a b ≡ Some s → AllowsWith b x y left right
    → AllowsWith s x y left right
either_allowed a b s x y left right none is here =
    let both : together Either b ≡ Some s = ap (λ t. together t b) (sym none) ∙ is in
    subst (λ t. AllowsWith t x y left right) (is_step b s both) here

-- all levels before allow the first, and this one the second
pub all_allowed : (weighting : Weighting) (a b s : Step) (first level : ℕ) (left right : FrontState) → together a b ≡ Some s
    → (level ≡ first → a ≡ Either) → first ≤ level
    → ((at : ℕ) → first ≤ at → at < level → Allows weighting a at left right) → Allows weighting b level left right
    → (at : ℕ) → first ≤ at → at < suc level → Allows weighting s at left right
all_allowed weighting a b s first level left right is none more before here at low high = which (nat_eq at level) refl
  where
    l : ℕ → ℕ
    l n = weight_here weighting n left

    r : ℕ → ℕ
    r n = weight_here weighting n right

    last : (n : Bool) → nat_eq level first ≡ n → Allows weighting s level left right
    last true same = either_allowed a b s (l level) (r level) (is_ended left) (is_ended right) (none (eqb-true level first same)) is here
    last false other =
        let apart : level ≢ first = λ e. let t : nat_eq level first ≡ true = eq-eqb level first e in cc in
        second_allowed a b s (l level) (r level) (l first) (r first) (is_ended left) (is_ended right) is (before first (omega arith) (omega (arith, more, apart))) here

    which : (n : Bool) → nat_eq at level ≡ n → Allows weighting s at left right
    which true same = subst (λ n. Allows weighting s n left right) (sym (eqb-true at level same)) (last (nat_eq level first) refl)
    which false other =
        let apart : at ≢ level = λ e. let t : nat_eq at level ≡ true = eq-eqb at level e in cc in
        first_allowed a b s (l at) (r at) (l level) (r level) (is_ended left) (is_ended right) is (before at low (omega (arith, high, apart))) here

-- ---- The levels so far

-- no weight at the front of a text that then has ended: nothing is left
ended_here : (weighting : Weighting) (level : ℕ) (f : FrontState) → (weight_here weighting level f ≡ 0 → is_ended f ≡ true)
    → first_of (weights_left weighting level f) ≡ 0 → weights_left weighting level f ≡ []
ended_here weighting level f ended none = front_ended weighting level f (ended none)

pub not_equal : (v w : ℕ) (order : Ordering) → order ≡ nat_cmp v w → v ≢ w → order ≢ Equal
not_equal v w order is apart equal =
    by_ranked (v < w) (v ≡ w) (w < v) (nat_cmp v w) (ranked v w (nat_cmp v w) refl)
    (λ e h. let no : Less ≡ Equal = sym e ∙ sym is ∙ equal in absurd cc)
    (λ e h. apart h)
    (λ e h. let no : Greater ≡ Equal = sym e ∙ sym is ∙ equal in absurd cc)

-- a level that differs decides
level_decides : (weighting : Weighting) (es fs : List Element) (left right : FrontState) (level : ℕ) (order : Ordering)
    → Differs (weight_here weighting level left) (weight_here weighting level right) (is_ended left) (is_ended right) order → GoesOn weighting es fs left right level
    → (order ≡ order_at weighting es fs level) × (order ≢ Equal) × (fetched left ≡ fetched_left_at weighting es fs level) × (fetched right ≡ fetched_right_at weighting es fs level)
level_decides weighting es fs left right level order differs on =
    let vs = weights_left weighting level left in
    let ws = weights_left weighting level right in
    let said = decides vs ws left.passed right.passed (order_at weighting es fs level) (fetched_left_at weighting es fs level) (fetched_right_at weighting es fs level)
    differs.apart (ended_here weighting level left differs.ends_left) (ended_here weighting level right differs.ends_right) on in (
      differs.compared ∙ said.order_is,
      not_equal (first_of vs) (first_of ws) order differs.compared differs.apart,
      front_count weighting level left ∙ said.left_is,
      front_count weighting level right ∙ said.right_is,
    )

-- what was found by the weights and the ends that were asked for
pub differs_at : (x y v w : ℕ) (a b c d : Bool) (order : Ordering) → x ≡ v → y ≡ w → a ≡ c → b ≡ d → Differs x y a b order → Differs v w c d order
differs_at x y v w a b c d order first second left right it =
    subst (λ n. Differs n w c d order) first (subst (λ n. Differs x n c d order) second (subst (λ e. Differs x y e d order) left (subst (λ e. Differs x y a e order) right it)))

-- a step that is allowed by the weights and the ends that were asked for
pub allows_at : (step : Step) (x y v w : ℕ) (a b c d : Bool) → x ≡ v → y ≡ w → a ≡ c → b ≡ d → AllowsWith step x y a b → AllowsWith step v w c d
allows_at step x y v w a b c d first second left right it =
    subst (λ n. AllowsWith step n w c d) first
    (subst (λ n. AllowsWith step x n c d) second (subst (λ e. AllowsWith step x y e d) left (subst (λ e. AllowsWith step x y a e) right it)))

pub stands_decided : (weighting : Weighting) (es fs : List Element) (left right : FrontState) (s t : LevelsSoFar) (level : ℕ)
    → Stands weighting es fs left right s → 1 ≤ s.first → s.first ≤ level → level ≤ s.through → t.first ≡ s.first → t.through ≡ level - 1 → t.last ≡ s.last
    → Differs (weight_here weighting level left) (weight_here weighting level right) (is_ended left) (is_ended right) t.order → Stands weighting es fs left right t
stands_decided weighting es fs left right s t level stands one low high first through last differs =
    let said = level_decides weighting es fs left right level t.order differs (stands.through level low high) in
    let up = stands.within in
    let is : suc t.through ≡ level = omega (arith, through, one, low) in
    record {
      within = (omega (arith, up, low, first, is), omega (arith, up, high, last, is), omega (arith, up, first, last), omega (arith, up, last));
      through = λ at from to. stands.through at (omega (arith, from, first)) (omega (arith, to, is, high));
      decided = λ less. (said.0 ∙ ap (order_at weighting es fs) (sym is), said.1);
      equal = λ same. let no : level ≡ suc s.last = omega (arith, is, same, last) in absurd (omega (arith, no, high, up));
      counts = λ less.
          let at : level ≡ t.first = omega (arith, less, is, first, low) in
          (said.2 ∙ ap (fetched_left_at weighting es fs) at, said.3 ∙ ap (fetched_right_at weighting es fs) at);
    }

-- ---- The texts go on

rest_is : (weighting : Weighting) (es fs : List Element) (level : ℕ) (vs ws : List ℕ) (f g : ℕ) (left right : FrontState)
    → weights_left weighting level left ≡ vs → weights_left weighting level right ≡ ws → left.passed ≡ f → right.passed ≡ g
    → GoOn vs ws f g (order_at weighting es fs level) (fetched_left_at weighting es fs level) (fetched_right_at weighting es fs level) → GoesOn weighting es fs left right level
rest_is weighting es fs level vs ws f g left right one other count count_too on =
    let o = order_at weighting es fs level in
    let m = fetched_left_at weighting es fs level in
    let n = fetched_right_at weighting es fs level in
    subst (λ l. GoOn l (weights_left weighting level right) left.passed right.passed o m n) (sym one)
    (subst (λ l. GoOn vs l left.passed right.passed o m n) (sym other)
    (subst (λ c. GoOn vs ws c right.passed o m n) (sym count)
    (subst (λ c. GoOn vs ws f c o m n) (sym count_too) on)))

-- at the begin of both
begun_weights : (weighting : Weighting) (level : ℕ) (es : List Element)
    → weights_left weighting level (begun es) ≡ weights_of_level weighting level es
begun_weights weighting level es = ap (map (weight_at level)) (weighted_after-follows weighting [] es)

pub stands_begun : (weighting : Weighting) (es fs : List Element) (first last : ℕ) (left right : FrontState) → left ≡ begun es
    → right ≡ begun fs → first ≤ last → last ≤ 4
    → Stands weighting es fs left right (record { first = first; through = last; last = last; order = Equal })
stands_begun weighting es fs first last left right one other some few = record {
  within = (omega (arith, some), omega arith, some, few);
  through = λ level low high.
      rest_is weighting es fs level (weights_of_level weighting level es) (weights_of_level weighting level fs) 0 0 left right
      (ap (weights_left weighting level) one ∙ begun_weights weighting level es) (ap (weights_left weighting level) other ∙ begun_weights weighting level fs)
      (ap (λ (f : FrontState). f.passed) one) (ap (λ (f : FrontState). f.passed) other)
      (record { compares = refl; fetches_left = refl; fetches_right = refl });
  decided = λ less. absurd (omega (arith, less));
  equal = λ same. refl;
  counts = λ less. absurd (omega (arith, less, some));
}

-- at all levels so far
stands_on : (weighting : Weighting) (es fs : List Element) (left right left1 right1 : FrontState) (s : LevelsSoFar)
    → Stands weighting es fs left right s → s.first ≤ s.through
    → ((level : ℕ) → s.first ≤ level → level ≤ s.through → GoesOn weighting es fs left1 right1 level) → Stands weighting es fs left1 right1 s
stands_on weighting es fs left right left1 right1 s stands some on = record {
  within = stands.within;
  through = on;
  decided = stands.decided;
  equal = stands.equal;
  counts = λ less. absurd (omega (arith, less, some));
}

pub stands_left : (weighting : Weighting) (es fs : List Element) (left right : FrontState) (s : LevelsSoFar)
    → Stands weighting es fs left right s → s.first ≤ s.through
    → ((level : ℕ) → s.first ≤ level → level ≤ s.through → Allows weighting Left level left right) → Stands weighting es fs (advanced left) right s
stands_left weighting es fs left right s stands some allowed = stands_on weighting es fs left right (advanced left) right s stands some on
  where
    on : (level : ℕ) → s.first ≤ level → level ≤ s.through → GoesOn weighting es fs (advanced left) right level
    on level low high =
        let vs = weights_left weighting level left in
        let ws = weights_left weighting level right in
        rest_is weighting es fs level (behind vs) ws (with_first vs left.passed) right.passed (advanced left) right
        (advanced_weights weighting level left) refl (advanced_count weighting level left) refl
        (left_on vs ws left.passed right.passed (order_at weighting es fs level) (fetched_left_at weighting es fs level) (fetched_right_at weighting es fs level)
        (allowed level low high).0 (stands.through level low high))

pub stands_right : (weighting : Weighting) (es fs : List Element) (left right : FrontState) (s : LevelsSoFar)
    → Stands weighting es fs left right s → s.first ≤ s.through
    → ((level : ℕ) → s.first ≤ level → level ≤ s.through → Allows weighting Right level left right) → Stands weighting es fs left (advanced right) s
stands_right weighting es fs left right s stands some allowed = stands_on weighting es fs left right left (advanced right) s stands some on
  where
    on : (level : ℕ) → s.first ≤ level → level ≤ s.through → GoesOn weighting es fs left (advanced right) level
    on level low high =
        let vs = weights_left weighting level left in
        let ws = weights_left weighting level right in
        rest_is weighting es fs level vs (behind ws) left.passed (with_first ws right.passed) left (advanced right)
        refl (advanced_weights weighting level right) refl (advanced_count weighting level right)
        (right_on vs ws left.passed right.passed (order_at weighting es fs level) (fetched_left_at weighting es fs level) (fetched_right_at weighting es fs level)
        (allowed level low high).0 (stands.through level low high))

-- where neither has a weight they may go on together
both_allowed : (step : Step) (x y : ℕ) (left right : Bool) → step ≡ Either ⊎ step ≡ Both → AllowsWith step x y left right → x ≡ y
both_allowed Either x y left right which allowed = allowed.0 ∙ sym allowed.1
both_allowed Both x y left right which allowed = allowed
both_allowed Left x y left right which allowed = elim which [ inl e ↦ absurd cc | inr e ↦ absurd cc ]
both_allowed Right x y left right which allowed = elim which [ inl e ↦ absurd cc | inr e ↦ absurd cc ]

pub stands_both : (weighting : Weighting) (es fs : List Element) (left right : FrontState) (s : LevelsSoFar) (step : Step)
    → Stands weighting es fs left right s → s.first ≤ s.through
    → step ≡ Either ⊎ step ≡ Both → ((level : ℕ) → s.first ≤ level → level ≤ s.through → Allows weighting step level left right)
    → Stands weighting es fs (advanced left) (advanced right) s
stands_both weighting es fs left right s step stands some which allowed = stands_on weighting es fs left right (advanced left) (advanced right) s stands some on
  where
    on : (level : ℕ) → s.first ≤ level → level ≤ s.through → GoesOn weighting es fs (advanced left) (advanced right) level
    on level low high =
        let vs = weights_left weighting level left in
        let ws = weights_left weighting level right in
        rest_is weighting es fs level (behind vs) (behind ws) (with_first vs left.passed) (with_first ws right.passed) (advanced left) (advanced right)
        (advanced_weights weighting level left) (advanced_weights weighting level right) (advanced_count weighting level left) (advanced_count weighting level right)
        (both_on vs ws left.passed right.passed (order_at weighting es fs level) (fetched_left_at weighting es fs level) (fetched_right_at weighting es fs level)
        (both_allowed step (first_of vs) (first_of ws) (is_ended left) (is_ended right) which (allowed level low high)) (stands.through level low high))

-- where both have the same weights at all levels
pub stands_agreed : (weighting : Weighting) (es fs : List Element) (left right : FrontState) (s : LevelsSoFar)
    → Stands weighting es fs left right s → 1 ≤ s.first → s.first ≤ s.through
    → front_weights weighting left ≡ front_weights weighting right → Stands weighting es fs (advanced left) (advanced right) s
stands_agreed weighting es fs left right s stands one some same =
    stands_both weighting es fs left right s Both stands some (inr refl) (λ level low high.
    let up = stands.within in
    let from : 1 ≤ level = omega (arith, one, low) in
    let to : level ≤ 4 = omega (arith, up, high) in
    sym (weight_is weighting left level (level - 1) (front_weights weighting left) refl from to refl)
    ∙ weight_is weighting right level (level - 1) (front_weights weighting left) same from to refl)

-- ---- One step

stands_same : (weighting : Weighting) (es fs : List Element) (left right left1 right1 : FrontState) (s : LevelsSoFar)
    → Stands weighting es fs left right s → left1 ≡ left → right1 ≡ right → Stands weighting es fs left1 right1 s
stands_same weighting es fs left right left1 right1 s stands one other =
    subst (λ (f : FrontState). Stands weighting es fs f right1 s) (sym one)
    (subst (λ (f : FrontState). Stands weighting es fs left f s) (sym other) stands)

-- after a step that all levels so far allow
pub stands_taken : (step : Step) (weighting : Weighting) (es fs : List Element) (left right left1 right1 : FrontState) (s : LevelsSoFar)
    → Stands weighting es fs left right s → s.first ≤ s.through
    → ((level : ℕ) → s.first ≤ level → level ≤ s.through → Allows weighting step level left right)
    → IsTaken step left right left1 right1 → Stands weighting es fs left1 right1 s
stands_taken Either weighting es fs left right left1 right1 s stands some allowed taken =
    stands_same weighting es fs (advanced left) (advanced right) left1 right1 s
    (stands_both weighting es fs left right s Either stands some (inl refl) allowed) taken.0 taken.1
stands_taken Both weighting es fs left right left1 right1 s stands some allowed taken =
    stands_same weighting es fs (advanced left) (advanced right) left1 right1 s
    (stands_both weighting es fs left right s Both stands some (inr refl) allowed) taken.0 taken.1
stands_taken Left weighting es fs left right left1 right1 s stands some allowed taken =
    stands_same weighting es fs (advanced left) right left1 right1 s (stands_left weighting es fs left right s stands some allowed) taken.0 taken.1
stands_taken Right weighting es fs left right left1 right1 s stands some allowed taken =
    stands_same weighting es fs left (advanced right) left1 right1 s (stands_right weighting es fs left right s stands some allowed) taken.0 taken.1

length_of : (f g : FrontState) → f ≡ g → length f.elements ≡ length g.elements
length_of f g is = ap (λ (h : FrontState). length h.elements) is

-- where one of two texts has not ended, fewer elements are left after both go on
fewer_both : (left right left1 right1 : FrontState) → (is_ended left ≡ false) ⊎ (is_ended right ≡ false)
    → left1 ≡ advanced left → right1 ≡ advanced right
    → length left1.elements + length right1.elements < length left.elements + length right.elements
fewer_both left right left1 right1 some one other =
    let left_is = length_of left1 (advanced left) one in
    let right_is = length_of right1 (advanced right) other in
    elim some [
      | inl e ↦ omega (arith, left_is, right_is, fewer_left left e, no_more_left right)
      | inr e ↦ omega (arith, left_is, right_is, no_more_left left, fewer_left right e)
    ]

-- where one of two texts has not ended, fewer elements are left after a step that a level allows
pub fewer_taken : (step : Step) (weighting : Weighting) (level : ℕ) (left right left1 right1 : FrontState)
    → (is_ended left ≡ false) ⊎ (is_ended right ≡ false) → Allows weighting step level left right → IsTaken step left right left1 right1
    → length left1.elements + length right1.elements < length left.elements + length right.elements
fewer_taken Either weighting level left right left1 right1 some allowed taken = fewer_both left right left1 right1 some taken.0 taken.1
fewer_taken Both weighting level left right left1 right1 some allowed taken = fewer_both left right left1 right1 some taken.0 taken.1
fewer_taken Left weighting level left right left1 right1 some allowed taken =
    omega (arith, length_of left1 (advanced left) taken.0, length_of right1 right taken.1, fewer_left left allowed.1)
fewer_taken Right weighting level left right left1 right1 some allowed taken =
    omega (arith, length_of left1 left taken.0, length_of right1 (advanced right) taken.1, fewer_left right allowed.1)
