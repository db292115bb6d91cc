-- What a level's list has: the weight that stays, and new weights of relations that there are.
use Rattle.std.proofs.Common.{◌≡◌, inl, inr, ℕ, Bool, true, false, List, [], ◌∷◌, length, map, if◌then◌else◌, refl, sym, ap, ◌∙◌}
use Rattle.std.specs.List.{AllByRecursion}
use denote.Enum.Bare.{sameb}
use Rattle.uca_weights.specs.declared.Element.{Element}
use Rattle.uca_weights.specs.declared.Level.{Level}
use Rattle.uca_weights.specs.declared.Level.TheVariants.{One, Two, Three}
use Rattle.uca_weights.specs.contracts.Level.{the_type}
use Rattle.uca_plans.specs.declared.drafts.DraftWeight.{DraftWeight}
use Rattle.uca_plans.specs.declared.drafts.DraftWeight.TheVariants.{Base}
use Rattle.uca_plans.specs.declared.drafts.Insertion.{Insertion}
use Rattle.uca_plans.specs.Lists.{fixed_weight, base_weights, same_weight, same_level, inserted, all_inserted, members_of, level_numbers}
use Rattle.uca_plans.specs.Lists.{IsNamedBelow, InsertsBelow}
use Rattle.uca_plans.specs.ListLaws.{IsAmong}
use Rattle.uca_plans.proofs.ListMembers.{same_or_other}
use Rattle.uca_plans.proofs.BaseWeightLemmas.{fixed_base}
use Rattle.uca_plans.proofs.GoodLists.{base_among}
use Rattle.uca_plans.proofs.RisingNumbers.{level_length}

-- ---- The weight that stays

-- members stay where a new weight is put in
inserted_keeps : (i : Insertion) (ms : List DraftWeight) (w : DraftWeight) → IsAmong ms w → IsAmong (inserted i ms) w
inserted_keeps i [] w among = absurd among
inserted_keeps i (m ∷ ms) w among = elim (same_or_other i.anchor m) [
  | inl same ↦ rw same.0 (put i.before among)
  | inr other ↦ rw other.0 (behind (inserted_keeps i ms w) among)
]
  where
    -- at the first
    put : (b : Bool) → IsAmong (m ∷ ms) w → IsAmong (if b then i.new ∷ m ∷ ms else m ∷ i.new ∷ ms) w
    put true among = inr among
    put false (inl here) = inl here
    put false (inr there) = inr (inr there)

    -- after the first
    behind : (IsAmong ms w → IsAmong (inserted i ms) w) → IsAmong (m ∷ ms) w → IsAmong (m ∷ inserted i ms) w
    behind more (inl here) = inl here
    behind more (inr there) = inr (more there)

-- where all are put in
all_keep : (level : Level) (insertions : List Insertion) (ms : List DraftWeight) (w : DraftWeight) → IsAmong ms w → IsAmong (all_inserted level insertions ms) w
all_keep level [] ms w among = among
all_keep level (i ∷ insertions) ms w among =
    all_keep level insertions (if same_level i.level level then inserted i ms else ms) w (one (same_level i.level level))
  where
    -- by the test
    one : (b : Bool) → IsAmong (if b then inserted i ms else ms) w
    one true = inserted_keeps i ms w among
    one false = among

-- a level's list has the weight that stays
fixed_there : (level : Level) (es : List Element) (insertions : List Insertion) → IsAmong (members_of level es insertions) (Base (fixed_weight level))
fixed_there level es insertions =
    all_keep level insertions (map Base (base_weights level es)) (Base (fixed_weight level))
    (base_among (base_weights level es) (fixed_weight level) (fixed_base level es))

-- a level's list has as many numbers as members
pub as_many_numbers : (level : Level) (es : List Element) (insertions : List Insertion)
    → length (level_numbers level (members_of level es insertions)) ≡ length (members_of level es insertions)
as_many_numbers level es insertions = level_length level (members_of level es insertions) (fixed_there level es insertions)

-- ---- One more insertion

-- the code compares levels as the definition does
pub levels_compared : (a b : Level) → same_level a b ≡ sameb the_type a b
levels_compared One One = refl
levels_compared One Two = refl
levels_compared One Three = refl
levels_compared Two One = refl
levels_compared Two Two = refl
levels_compared Two Three = refl
levels_compared Three One = refl
levels_compared Three Two = refl
levels_compared Three Three = refl

-- the first insertion is put in or passed over
pub one_more : (level : Level) (i : Insertion) (rest : List Insertion) (ms next whole : List DraftWeight) (b : Bool)
    → all_inserted level (i ∷ rest) ms ≡ whole → same_level i.level level ≡ b → next ≡ (if b then inserted i ms else ms)
    → all_inserted level rest next ≡ whole
one_more level i rest ms next whole b so_far tested is =
    ap (all_inserted level rest) (is ∙ ap (λ t. if t then inserted i ms else ms) (sym tested)) ∙ so_far

-- ---- New weights

-- base weights are of no relation
bases_named : (relations : ℕ) (ws : List ℕ) → AllByRecursion (IsNamedBelow relations) (map Base ws)
bases_named relations [] = tt
bases_named relations (w ∷ ws) = (tt, bases_named relations ws)

-- with one new weight
inserted_named : (relations : ℕ) (i : Insertion) (ms : List DraftWeight) → InsertsBelow relations i → AllByRecursion (IsNamedBelow relations) ms
    → AllByRecursion (IsNamedBelow relations) (inserted i ms)
inserted_named relations i [] below named = tt
inserted_named relations i (m ∷ ms) below named = go (inserted_named relations i ms below named.1) (same_weight i.anchor m) i.before
  where
    -- by the tests
    go : AllByRecursion (IsNamedBelow relations) (inserted i ms) → (b before : Bool)
        → AllByRecursion (IsNamedBelow relations) (if b then (if before then i.new ∷ m ∷ ms else m ∷ i.new ∷ ms) else m ∷ inserted i ms)
    go rest true true = (below, named)
    go rest true false = (named.0, (below, named.1))
    go rest false before = (named.0, rest)

-- with all new weights
all_named : (relations : ℕ) (level : Level) (insertions : List Insertion) (ms : List DraftWeight) → AllByRecursion (InsertsBelow relations) insertions
    → AllByRecursion (IsNamedBelow relations) ms → AllByRecursion (IsNamedBelow relations) (all_inserted level insertions ms)
all_named relations level [] ms below named = named
all_named relations level (i ∷ insertions) ms below named =
    all_named relations level insertions (if same_level i.level level then inserted i ms else ms) below.1 (one (same_level i.level level))
  where
    -- by the test
    one : (b : Bool) → AllByRecursion (IsNamedBelow relations) (if b then inserted i ms else ms)
    one true = inserted_named relations i ms below.0 named
    one false = named

-- the new weights of a level's list are of relations that there are
pub members_named : (relations : ℕ) (level : Level) (es : List Element) (insertions : List Insertion) → AllByRecursion (InsertsBelow relations) insertions
    → AllByRecursion (IsNamedBelow relations) (members_of level es insertions)
members_named relations level es insertions below =
    all_named relations level insertions (map Base (base_weights level es)) below (bases_named relations (base_weights level es))
