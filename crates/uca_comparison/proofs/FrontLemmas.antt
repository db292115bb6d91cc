-- The weights of two texts from the fronts of a comparison on.
use Rattle.std.proofs.Common.{◌≡◌, ◌≢◌, ℕ, zero, suc, ◌<◌, ◌≤◌, List, [], ◌∷◌, length, Bool, true, false, nat_eq, refl, ap, arith, sym, ◌∙◌, eq-eqb, ◌-◌, slice_index_or, map}
use Rattle.std.proofs.lemmas.Bool.{eqb-true, ne_eqb}
use Rattle.std.specs.Ordering.{nat_cmp, ordering_then}
use Rattle.std.specs.declared.cmp.Ordering.{Ordering}
use Rattle.std.specs.declared.cmp.Ordering.TheVariants.{Equal}
use Rattle.std.proofs.lemmas.Cmp.{ranked, by_ranked}
use Rattle.uca_weights.specs.declared.Element.{Element}
use Rattle.uca_weights.specs.declared.Weighting.{Weighting}
use Rattle.uca_order.specs.Levels.{lexicographic, weight_at}
use Rattle.uca_order.specs.Fetched.{length_to, shared_length}
use Rattle.uca_order.specs.StreamedWeights.{weighted_after}
use Rattle.uca_comparison.specs.Fronts.{FrontState, weights_left, weight_here, front_weights, first_of, counted, count_with, fetched, is_empty, is_ended, after_one, advanced}
use Rattle.uca_comparison.specs.Walks.{non_zero, GoOn}
use Rattle.uca_order.proofs.KeyOrder.{cmp_less, cmp_equal, cmp_greater}

-- ---- Counting

counted_one : (count n : ℕ) → counted count (suc n) ≡ counted (counted count 1) n
counted_one count zero = refl
counted_one count (suc n) = omega arith

-- ---- One list of weights

-- without the first
abbrev pub behind : List ℕ → List ℕ
behind [] = []
behind (w ∷ ws) = ws

-- a count with the first
abbrev pub with_first : List ℕ → ℕ → ℕ
with_first [] count = count
with_first (w ∷ ws) count = counted count 1

-- the first is 0: it is not in the list of the level
pub zero_list : (ws : List ℕ) → first_of ws ≡ 0 → non_zero ws ≡ non_zero (behind ws)
zero_list [] none = refl
zero_list (w ∷ ws) none = rw (eq-eqb w 0 none) refl

zero_step : (place w : ℕ) (ws : List ℕ) → nat_eq w 0 ≡ true → length_to place (w ∷ ws) ≡ suc (length_to place ws)
zero_step zero w ws none = rw none refl
zero_step (suc place) w ws none = rw none refl

pub zero_count : (place count : ℕ) (ws : List ℕ) → first_of ws ≡ 0
    → counted count (length_to place ws) ≡ counted (with_first ws count) (length_to place (behind ws))
zero_count place count [] none = refl
zero_count place count (w ∷ ws) none = ap (counted count) (zero_step place w ws (eq-eqb w 0 none)) ∙ counted_one count (length_to place ws)

-- it is not 0: it comes first
pub some_list : (ws : List ℕ) → first_of ws ≢ 0 → non_zero ws ≡ first_of ws ∷ non_zero (behind ws)
some_list [] some = absurd (some refl)
some_list (w ∷ ws) some = rw (ne_eqb w 0 some) refl

pub some_count : (place count : ℕ) (ws : List ℕ) → first_of ws ≢ 0
    → counted count (length_to (suc place) ws) ≡ counted (with_first ws count) (length_to place (behind ws))
some_count place count [] some = absurd (some refl)
some_count place count (w ∷ ws) some =
    let one : length_to (suc place) (w ∷ ws) ≡ suc (length_to place ws) = rw (ne_eqb w 0 some) refl in
    ap (counted count) one ∙ counted_one count (length_to place ws)

-- and a difference there is reached with it
pub some_here : (count : ℕ) (ws : List ℕ) → first_of ws ≢ 0 → counted count (length_to 0 ws) ≡ with_first ws count
some_here count [] some = absurd (some refl)
some_here count (w ∷ ws) some = rw (ne_eqb w 0 some) refl

-- ---- Two lists

-- the position at which they differ first
abbrev place_of : List ℕ → List ℕ → ℕ
place_of vs ws = shared_length (non_zero vs) (non_zero ws)

-- the left one alone goes on after a 0
pub left_on : (vs ws : List ℕ) (f g : ℕ) (order : Ordering) (m n : ℕ) → first_of vs ≡ 0 → GoOn vs ws f g order m n
    → GoOn (behind vs) ws (with_first vs f) g order m n
left_on vs ws f g order m n none on =
    let same = zero_list vs none in
    let place : place_of vs ws ≡ place_of (behind vs) ws = ap (λ l. shared_length l (non_zero ws)) same in
    record {
      compares = ap (λ l. lexicographic l (non_zero ws)) (sym same) ∙ on.compares;
      fetches_left = sym (zero_count (place_of (behind vs) ws) f vs none) ∙ ap (λ p. counted f (length_to p vs)) (sym place) ∙ on.fetches_left;
      fetches_right = ap (λ p. counted g (length_to p ws)) (sym place) ∙ on.fetches_right;
    }

pub right_on : (vs ws : List ℕ) (f g : ℕ) (order : Ordering) (m n : ℕ) → first_of ws ≡ 0 → GoOn vs ws f g order m n
    → GoOn vs (behind ws) f (with_first ws g) order m n
right_on vs ws f g order m n none on =
    let same = zero_list ws none in
    let place : place_of vs ws ≡ place_of vs (behind ws) = ap (shared_length (non_zero vs)) same in
    record {
      compares = ap (lexicographic (non_zero vs)) (sym same) ∙ on.compares;
      fetches_left = ap (λ p. counted f (length_to p vs)) (sym place) ∙ on.fetches_left;
      fetches_right = sym (zero_count (place_of vs (behind ws)) g ws none) ∙ ap (λ p. counted g (length_to p ws)) (sym place) ∙ on.fetches_right;
    }

-- both go on after a weight that is not 0
some_on : (vs ws : List ℕ) (f g : ℕ) (order : Ordering) (m n : ℕ) → first_of vs ≢ 0 → first_of vs ≡ first_of ws → GoOn vs ws f g order m n
    → GoOn (behind vs) (behind ws) (with_first vs f) (with_first ws g) order m n
some_on vs ws f g order m n some same on =
    let more : first_of ws ≢ 0 = λ e. some (same ∙ e) in
    let left = some_list vs some in
    let right = some_list ws more in
    let rest = place_of (behind vs) (behind ws) in
    let is : nat_eq (first_of vs) (first_of ws) ≡ true = eq-eqb (first_of vs) (first_of ws) same in
    let place : place_of vs ws ≡ suc rest =
    ap (λ l. shared_length l (non_zero ws)) left ∙ ap (shared_length (first_of vs ∷ non_zero (behind vs))) right ∙ rw is refl in
    record {
      compares = sym (ap (λ l. lexicographic l (non_zero ws)) left
          ∙ ap (lexicographic (first_of vs ∷ non_zero (behind vs))) right
          ∙ ap (λ o. ordering_then o (lexicographic (non_zero (behind vs)) (non_zero (behind ws)))) (cmp_equal (first_of vs) (first_of ws) same)) ∙ on.compares;
      fetches_left = sym (some_count rest f vs some) ∙ ap (λ p. counted f (length_to p vs)) (sym place) ∙ on.fetches_left;
      fetches_right = sym (some_count rest g ws more) ∙ ap (λ p. counted g (length_to p ws)) (sym place) ∙ on.fetches_right;
    }

-- both go on after equal weights
pub both_on : (vs ws : List ℕ) (f g : ℕ) (order : Ordering) (m n : ℕ) → first_of vs ≡ first_of ws → GoOn vs ws f g order m n
    → GoOn (behind vs) (behind ws) (with_first vs f) (with_first ws g) order m n
both_on vs ws f g order m n same on = at (nat_eq (first_of vs) 0) refl
  where
    at : (b : Bool) → nat_eq (first_of vs) 0 ≡ b → GoOn (behind vs) (behind ws) (with_first vs f) (with_first ws g) order m n
    at true is =
        let none = eqb-true (first_of vs) 0 is in
        right_on (behind vs) ws (with_first vs f) g order m n (sym same ∙ none) (left_on vs ws f g order m n none on)
    at false is = some_on vs ws f g order m n (λ e. let t : nat_eq (first_of vs) 0 ≡ true = eq-eqb (first_of vs) 0 e in cc) same on

-- of two weights that differ the order is theirs
pub then_apart : (v w : ℕ) (later : Ordering) → v ≢ w → ordering_then (nat_cmp v w) later ≡ nat_cmp v w
then_apart v w later other =
    by_ranked (v < w) (v ≡ w) (w < v) (nat_cmp v w) (ranked v w (nat_cmp v w) refl)
    (λ e h. ap (λ o. ordering_then o later) e ∙ sym e)
    (λ e h. absurd (other h))
    (λ e h. ap (λ o. ordering_then o later) e ∙ sym e)

-- the first weights differ, where 0 says that there is none: the order is theirs, and the lists share nothing
record Apart (vs ws : List ℕ) : Type 0 where
  order : lexicographic (non_zero vs) (non_zero ws) ≡ nat_cmp (first_of vs) (first_of ws)
  place : place_of vs ws ≡ 0

apart : (vs ws : List ℕ) → first_of vs ≢ first_of ws → (first_of vs ≡ 0 → vs ≡ []) → (first_of ws ≡ 0 → ws ≡ []) → Apart vs ws
apart [] [] other left right = absurd (other refl)
apart [] (w ∷ ws) other left right =
    let some : w ≢ 0 = λ e. other (sym e) in
    let list = some_list (w ∷ ws) some in
    record { order = ap (lexicographic []) list ∙ sym (cmp_less 0 w (omega arith)); place = refl }
apart (v ∷ vs) [] other left right =
    let some : v ≢ 0 = λ e. other e in
    let list = some_list (v ∷ vs) some in
    record { order = ap (λ l. lexicographic l []) list ∙ sym (cmp_greater v 0 (omega arith)); place = ap (λ l. shared_length l []) list }
apart (v ∷ vs) (w ∷ ws) other left right =
    let first : v ≢ 0 = λ e. let no : v ∷ vs ≡ [] = left e in cc in
    let second : w ≢ 0 = λ e. let no : w ∷ ws ≡ [] = right e in cc in
    let list = some_list (v ∷ vs) first in
    let list_too = some_list (w ∷ ws) second in
    let no : nat_eq v w ≡ false = ne_eqb v w other in
    record {
      order = ap (λ l. lexicographic l (non_zero (w ∷ ws))) list ∙ ap (lexicographic (v ∷ non_zero vs)) list_too ∙ then_apart v w (lexicographic (non_zero vs) (non_zero ws)) other;
      place = ap (λ l. shared_length l (non_zero (w ∷ ws))) list ∙ ap (shared_length (v ∷ non_zero vs)) list_too ∙ rw no refl;
    }

-- what a level says where it differs
pub record Decides (vs ws : List ℕ) (f g : ℕ) (order : Ordering) (m n : ℕ) : Type 0 where
  pub order_is : nat_cmp (first_of vs) (first_of ws) ≡ order
  pub left_is : with_first vs f ≡ m
  pub right_is : with_first ws g ≡ n

reached : (count : ℕ) (ws : List ℕ) → (first_of ws ≡ 0 → ws ≡ []) → counted count (length_to 0 ws) ≡ with_first ws count
reached count [] ended = refl
reached count (w ∷ ws) ended = some_here count (w ∷ ws) (λ e. let no : w ∷ ws ≡ [] = ended e in cc)

pub decides : (vs ws : List ℕ) (f g : ℕ) (order : Ordering) (m n : ℕ) → first_of vs ≢ first_of ws → (first_of vs ≡ 0 → vs ≡ [])
    → (first_of ws ≡ 0 → ws ≡ [])
    → GoOn vs ws f g order m n → Decides vs ws f g order m n
decides vs ws f g order m n other left right on =
    let here = apart vs ws other left right in
    record {
      order_is = sym here.order ∙ on.compares;
      left_is = sym (reached f vs left) ∙ ap (λ p. counted f (length_to p vs)) (sym here.place) ∙ on.fetches_left;
      right_is = sym (reached g ws right) ∙ ap (λ p. counted g (length_to p ws)) (sym here.place) ∙ on.fetches_right;
    }

-- nothing is left
pub nothing_on : (vs ws : List ℕ) (f g : ℕ) (order : Ordering) (m n : ℕ) → vs ≡ [] → ws ≡ [] → GoOn vs ws f g order m n
    → (order ≡ Equal) × (f ≡ m) × (g ≡ n)
nothing_on vs ws f g order m n none none_too on = (
  sym on.compares ∙ ap (λ l. lexicographic (non_zero l) (non_zero ws)) none ∙ ap (λ l. lexicographic [] (non_zero l)) none_too,
  ap (λ l. counted f (length_to (shared_length (non_zero l) (non_zero ws)) l)) (sym none) ∙ on.fetches_left,
  sym (ap (λ l. counted g (length_to (shared_length (non_zero vs) (non_zero l)) l)) none_too) ∙ on.fetches_right,
)

-- ---- A front

-- the weight at a level, by its position
pub weight_is : (weighting : Weighting) (f : FrontState) (level at : ℕ) (four : List ℕ) → four ≡ front_weights weighting f → 1 ≤ level
    → level ≤ 4 → at ≡ level - 1
    → slice_index_or four at 0 ≡ weight_here weighting level f
weight_is weighting f level at four is low high place =
    ap (λ ws. slice_index_or ws at 0) is ∙ ap (λ n. slice_index_or (front_weights weighting f) n 0) place ∙ by_level level low high
  where
    by_level : (level : ℕ) → 1 ≤ level → level ≤ 4 → slice_index_or (front_weights weighting f) (level - 1) 0 ≡ weight_here weighting level f
    by_level zero low high = absurd (omega arith)
    by_level (suc zero) low high = refl
    by_level (suc (suc zero)) low high = refl
    by_level (suc (suc (suc zero))) low high = refl
    by_level (suc (suc (suc (suc zero)))) low high = refl
    by_level (suc (suc (suc (suc (suc level))))) low high = absurd (omega arith)

abbrev weights_of_rest : Weighting → ℕ → Bool → List Element → List ℕ
weights_of_rest weighting level flag es = map (weight_at level) (weighted_after weighting flag es)

count_is : (weighting : Weighting) (level passed : ℕ) (flag : Bool) (es : List Element)
    → count_with passed es ≡ with_first (weights_of_rest weighting level flag es) passed
count_is weighting level passed flag [] = refl
count_is weighting level passed flag (e ∷ es) = refl

pub front_count : (weighting : Weighting) (level : ℕ) (f : FrontState) → fetched f ≡ with_first (weights_left weighting level f) f.passed
front_count weighting level f = count_is weighting level f.passed f.after_variable f.elements

none_left : (weighting : Weighting) (level : ℕ) (flag : Bool) (es : List Element) → is_empty es ≡ true → weights_of_rest weighting level flag es ≡ []
none_left weighting level flag [] is = refl
none_left weighting level flag (e ∷ es) is = absurd cc

pub front_ended : (weighting : Weighting) (level : ℕ) (f : FrontState) → is_ended f ≡ true → weights_left weighting level f ≡ []
front_ended weighting level f is = none_left weighting level f.after_variable f.elements is

ended_count : (passed : ℕ) (es : List Element) → is_empty es ≡ true → count_with passed es ≡ passed
ended_count passed [] is = refl
ended_count passed (e ∷ es) is = absurd cc

pub fetched_all : (f : FrontState) → is_ended f ≡ true → fetched f ≡ f.passed
fetched_all f is = ended_count f.passed f.elements is

-- after the element at the front
rest_after : (weighting : Weighting) (level passed : ℕ) (flag : Bool) (es : List Element)
    → weights_left weighting level (after_one flag passed es) ≡ behind (weights_of_rest weighting level flag es)
rest_after weighting level passed flag [] = refl
rest_after weighting level passed flag (e ∷ es) = refl

pub advanced_weights : (weighting : Weighting) (level : ℕ) (f : FrontState)
    → weights_left weighting level (advanced f) ≡ behind (weights_left weighting level f)
advanced_weights weighting level f = rest_after weighting level f.passed f.after_variable f.elements

passed_after : (passed : ℕ) (flag : Bool) (es : List Element) → (after_one flag passed es).passed ≡ count_with passed es
passed_after passed flag [] = refl
passed_after passed flag (e ∷ es) = refl

pub advanced_count : (weighting : Weighting) (level : ℕ) (f : FrontState) → (advanced f).passed ≡ with_first (weights_left weighting level f) f.passed
advanced_count weighting level f = passed_after f.passed f.after_variable f.elements ∙ front_count weighting level f

-- fewer elements are left after it
fewer_after : (passed : ℕ) (flag : Bool) (es : List Element) → is_empty es ≡ false → length (after_one flag passed es).elements < length es
fewer_after passed flag [] is = absurd cc
fewer_after passed flag (e ∷ es) is = omega arith

pub fewer_left : (f : FrontState) → is_ended f ≡ false → length (advanced f).elements < length f.elements
fewer_left f is = fewer_after f.passed f.after_variable f.elements is

no_more_after : (passed : ℕ) (flag : Bool) (es : List Element) → length (after_one flag passed es).elements ≤ length es
no_more_after passed flag [] = omega arith
no_more_after passed flag (e ∷ es) = omega arith

pub no_more_left : (f : FrontState) → length (advanced f).elements ≤ length f.elements
no_more_left f = no_more_after f.passed f.after_variable f.elements
