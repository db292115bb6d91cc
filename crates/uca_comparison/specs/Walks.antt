-- Comparing levels of two texts in one walk over both. Only contracts of the parts of comparisons cite this file.
use Rattle.std.specs.Prelude.{◌≡◌, ◌≢◌, ◌<◌, ◌≤◌, ℕ, suc, ◌-◌, List, Bool, true, false, map, filter, nat_eq, nat_lt, not, if◌then◌else◌, Option, Some, None}
use Rattle.std.specs.Ordering.{nat_cmp}
use Rattle.std.specs.declared.cmp.Ordering.{Ordering}
use Rattle.std.specs.declared.cmp.Ordering.TheVariants.{Equal}
use Rattle.uca_weights.specs.declared.Element.{Element}
use Rattle.uca_weights.specs.declared.Weighting.{Weighting}
use Rattle.uca_comparison.specs.declared.walk.Step.{Step}
use Rattle.uca_comparison.specs.declared.walk.Step.TheVariants.{Either, Both, Left, Right}
use Rattle.uca_comparison.specs.declared.walk.LevelStep.{LevelStep}
use Rattle.uca_comparison.specs.declared.walk.LevelStep.TheVariants.{May, Differ}
use Rattle.uca_comparison.specs.declared.walk.LevelsSoFar.{LevelsSoFar}
use Rattle.uca_comparison.specs.declared.walk.Walked.{Walked}
use Rattle.uca_order.specs.Levels.{Comparison, lexicographic, weight_at, weighted, level_list, level_lists_from, compare_from}
use Rattle.uca_order.specs.Fetched.{shared_length, length_to}
use Rattle.uca_comparison.specs.Fronts.{FrontState, advanced, weights_left, weight_here, is_ended, counted, fetched}

-- ---- What the weights at the fronts allow

-- the lists of a level compare after this step as before it, where these are its weights at the fronts
abbrev pub AllowsWith : Step → ℕ → ℕ → Bool → Bool → Type 0
AllowsWith Either left right left_ended right_ended = (left ≡ 0) × (right ≡ 0)
AllowsWith Both left right left_ended right_ended = left ≡ right
AllowsWith Left left right left_ended right_ended = (left ≡ 0) × (left_ended ≡ false)
AllowsWith Right left right left_ended right_ended = (right ≡ 0) × (right_ended ≡ false)

abbrev pub Allows : Weighting → Step → ℕ → FrontState → FrontState → Type 0
Allows weighting step level left right = AllowsWith step (weight_here weighting level left) (weight_here weighting level right) (is_ended left) (is_ended right)

-- the fronts before a step, and after it
abbrev pub IsTaken : Step → FrontState → FrontState → FrontState → FrontState → Type 0
IsTaken Either left right new_left new_right = (new_left ≡ advanced left) × (new_right ≡ advanced right)
IsTaken Both left right new_left new_right = (new_left ≡ advanced left) × (new_right ≡ advanced right)
IsTaken Left left right new_left new_right = (new_left ≡ advanced left) × (new_right ≡ right)
IsTaken Right left right new_left new_right = (new_left ≡ left) × (new_right ≡ advanced right)

-- what two steps allow together
abbrev pub together : Step → Step → Option Step
together Either step = Some step
together Both Either = Some Both
together Both Both = Some Both
together Left Either = Some Left
together Left Left = Some Left
together Right Either = Some Right
together Right Right = Some Right
together _ _ = None

-- the lists of the level differ here, in this order
pub record Differs (left right : ℕ) (left_ended right_ended : Bool) (order : Ordering) : Type 0 where
  pub apart : left ≢ right
  pub compared : order ≡ nat_cmp left right
  pub ends_left : left ≡ 0 → left_ended ≡ true
  pub ends_right : right ≡ 0 → right_ended ≡ true

abbrev pub Says : ℕ → ℕ → Bool → Bool → LevelStep → Type 0
Says left right left_ended right_ended (May step) = AllowsWith step left right left_ended right_ended
Says left right left_ended right_ended (Differ order) = Differs left right left_ended right_ended order

-- ---- Where the walk is

abbrev pub non_zero : List ℕ → List ℕ
non_zero ws = filter (λ w. not (nat_eq w 0)) ws

-- the weights of elements at a level, zeros among them
abbrev pub weights_of_level : Weighting → ℕ → List Element → List ℕ
weights_of_level weighting level es = map (weight_at level) (weighted weighting es)

-- how two texts compare at a level
abbrev pub order_at : Weighting → List Element → List Element → ℕ → Ordering
order_at weighting es fs level = lexicographic (level_list level (weighted weighting es)) (level_list level (weighted weighting fs))

-- the first position at which the lists of a level differ
abbrev pub difference_at : Weighting → List Element → List Element → ℕ → ℕ
difference_at weighting es fs level = shared_length (level_list level (weighted weighting es)) (level_list level (weighted weighting fs))

-- the weights that are left of two texts compare in this order, and with those before, this many elements are fetched
pub record GoOn (left right : List ℕ) (passed_left passed_right : ℕ) (order : Ordering) (all_left all_right : ℕ) : Type 0 where
  pub compares : lexicographic (non_zero left) (non_zero right) ≡ order
  pub fetches_left : counted passed_left (length_to (shared_length (non_zero left) (non_zero right)) left) ≡ all_left
  pub fetches_right : counted passed_right (length_to (shared_length (non_zero left) (non_zero right)) right) ≡ all_right

-- how many elements of each text are fetched to compare a level
abbrev pub fetched_left_at : Weighting → List Element → List Element → ℕ → ℕ
fetched_left_at weighting es fs level = counted 0 (length_to (difference_at weighting es fs level) (weights_of_level weighting level es))

abbrev pub fetched_right_at : Weighting → List Element → List Element → ℕ → ℕ
fetched_right_at weighting es fs level = counted 0 (length_to (difference_at weighting es fs level) (weights_of_level weighting level fs))

-- from the fronts on a level compares as the whole texts do
abbrev pub GoesOn : Weighting → List Element → List Element → FrontState → FrontState → ℕ → Type 0
GoesOn weighting es fs left right level =
    GoOn (weights_left weighting level left) (weights_left weighting level right) left.passed right.passed
    (order_at weighting es fs level) (fetched_left_at weighting es fs level) (fetched_right_at weighting es fs level)

-- The levels up to `through` go on; the one after them decides, if there is one; and the counts are those of the first level once it
-- decides.
pub record Stands (weighting : Weighting) (es fs : List Element) (left right : FrontState) (levels : LevelsSoFar) : Type 0 where
  pub within : (levels.first ≤ suc levels.through) × (levels.through ≤ levels.last) × (levels.first ≤ levels.last) × (levels.last ≤ 4)
  pub through : (level : ℕ) → levels.first ≤ level → level ≤ levels.through → GoesOn weighting es fs left right level
  pub decided : levels.through < levels.last → (levels.order ≡ order_at weighting es fs (suc levels.through)) × (levels.order ≢ Equal)
  pub equal : levels.through ≡ levels.last → levels.order ≡ Equal
  pub counts : levels.through < levels.first
      → (fetched left ≡ fetched_left_at weighting es fs levels.first) × (fetched right ≡ fetched_right_at weighting es fs levels.first)

-- no level of these is decided yet
abbrev pub none_decided : ℕ → ℕ → LevelsSoFar
none_decided first last = record { first = first; through = last; last = last; order = Equal }

abbrev pub decided_level : ℕ → ℕ → ℕ
decided_level through last = if nat_lt through last then suc through else 0

-- ---- What a walk returns

-- how two texts compare at this many levels
abbrev pub compared_levels : Weighting → List Element → List Element → ℕ → ℕ → Comparison
compared_levels weighting es fs first count =
    compare_from first (level_lists_from first count (weighted weighting es)) (level_lists_from first count (weighted weighting fs))

-- the order and the level at the levels `first` to that of the result, which is at most `last`, and the counts of the first one
pub record Walks (weighting : Weighting) (first last : ℕ) (es fs : List Element) (w : Walked) : Type 0 where
  pub within : (first ≤ w.last) × (w.last ≤ last)
  pub order_is : w.order ≡ (compared_levels weighting es fs first (suc w.last - first)).order
  pub level_is : w.level ≡ (compared_levels weighting es fs first (suc w.last - first)).level
  pub left_is : w.fetched_left ≡ fetched_left_at weighting es fs first
  pub right_is : w.fetched_right ≡ fetched_right_at weighting es fs first
