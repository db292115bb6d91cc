-- After each relation, if a key of three or more code points ends with a non-starter, then the key without it is a key
-- too.
use Rattle.std.proofs.Common.{◌≡◌, ◌≢◌, ℕ, ◌+◌, ◌<◌, ◌≤◌, Bool, true, false, not, eqb, ◌&&◌, List, [], ◌∷◌, ◌++◌, length, refl, sym, ap}
use Rattle.std.proofs.Common.{◌∙◌, arith, subst, length-append}
use Rattle.std.proofs.lemmas.Bool.{or_left, ne_eqb}
use Rattle.std.specs.List.{AllByRecursion}
use Rattle.uca_values.specs.Content.{Entry, keys_of}
use Rattle.uca_check.specs.WellFormed.{MeetsWF5}
use Rattle.uca_weights.proofs.Lists.{each_weaker}
use Rattle.uca_relations.specs.declared.Relation.{Relation}
use Rattle.uca_elements.specs.Rows.{same_key}
use Rattle.uca_plans.specs.Drafts.{DraftRow, has_key}
use Rattle.uca_plans.specs.Keys.{keys_in, is_among, with_key}
use Rattle.uca_plans.specs.Plans.{Basis, Drafting, begun, needs_prefix}
use Rattle.uca_plans.proofs.KeyPlaces.{each_with_key}
use Rattle.uca_plans.proofs.KeyPlaces.{has_key_is, keys_with_row, among_with_key}
use Rattle.uca_plans.proofs.PlanKeys.{keys_of_drafts, among_contained, contained_among}
use Rattle.uca_plans.proofs.PlanSteps.{AreSteps, target_row}
use Rattle.uca_plans.proofs.Prefixes.{long_needs}

-- three or more code points that end with a non-starter are a key without it
abbrev pub HasShorter : (ℕ → ℕ) → List (List ℕ) → List ℕ → Type 0
HasShorter class keys key = (front : List ℕ) (last : ℕ) → key ≡ front ++ last ∷ [] → 2 ≤ length front → class last ≢ 0 → is_among keys front ≡ true

-- each of the keys is so
abbrev pub HaveShorter : (ℕ → ℕ) → List (List ℕ) → Type 0
HaveShorter class keys = AllByRecursion (HasShorter class keys) keys

-- ---- Tables

-- the keys of rows that meet WF5 among others are so among their keys
keys_shorter : (class : ℕ → ℕ) (all rows : List Entry) → AllByRecursion (MeetsWF5 class all) rows
    → AllByRecursion (HasShorter class (keys_of all)) (keys_of rows)
keys_shorter class all [] meets = tt
keys_shorter class all (row ∷ rows) meets = (
  λ front last parts long non_starter. among_contained (keys_of all) front (meets.0.shorter front last parts long non_starter),
  keys_shorter class all rows meets.1,
)

-- and the other way round
pub rows_shorter : (class : ℕ → ℕ) (all rows : List Entry) → AllByRecursion (HasShorter class (keys_of all)) (keys_of rows)
    → AllByRecursion (MeetsWF5 class all) rows
rows_shorter class all [] have = tt
rows_shorter class all (row ∷ rows) have = (
  record { shorter = λ front last parts long non_starter. contained_among (keys_of all) front (have.0 front last parts long non_starter) },
  rows_shorter class all rows have.1,
)

-- ---- Targets

-- a target that needs no shorter key any more is so among the keys of the rows
target_shorter : (class : ℕ → ℕ) (rows : List DraftRow) (target : List ℕ) → needs_prefix class rows target ≡ false
    → HasShorter class (keys_in rows) target
target_shorter class rows target has front last parts long non_starter =
    let three : 2 < length target = omega (arith, long, ap length parts, length-append front (last ∷ [])) in
    sym (has_key_is rows front) ∙ both_tests (eqb (class last) 0) (has_key rows front) (ne_eqb (class last) 0 non_starter)
    (sym (long_needs class rows target front last parts three) ∙ has)
  where
    -- the second of two tests, when the first is met
    both_tests : (starter there : Bool) → starter ≡ false → (not starter && not there) ≡ false → there ≡ true
    both_tests true there other both = absurd (cc)
    both_tests false true other both = refl
    both_tests false false other both = absurd (cc)

-- one more key takes nothing from the others
more_shorter : (class : ℕ → ℕ) (new : List ℕ) (keys : List (List ℕ)) (key : List ℕ) → HasShorter class keys key → HasShorter class (with_key new keys) key
more_shorter class new keys key has front last parts long non_starter =
    among_with_key new keys front ∙ or_left (is_among keys front) (same_key new front) (has front last parts long non_starter)

-- so keys that are so stay so with a target
with_shorter : (class : ℕ → ℕ) (target : List ℕ) (keys : List (List ℕ)) → HasShorter class keys target → HaveShorter class keys
    → HaveShorter class (with_key target keys)
with_shorter class target keys here each =
    each_with_key (HasShorter class (with_key target keys)) target keys (more_shorter class target keys target here)
    (each_weaker (HasShorter class keys) (HasShorter class (with_key target keys)) (λ key has. more_shorter class target keys key has) keys each)

-- ---- Steps

-- keys that have this property before relations have it after them
pub steps_shorter : (basis : Basis) (n : ℕ) (relations : List Relation) (here behind : Drafting) → AreSteps basis n relations here behind
    → HaveShorter basis.properties.class (keys_in here.rows) → HaveShorter basis.properties.class (keys_in behind.rows)
steps_shorter basis n [] here behind steps have = subst (λ (d : Drafting). HaveShorter basis.properties.class (keys_in d.rows)) steps have
steps_shorter basis n (r ∷ relations) here behind steps have =
    let class = basis.properties.class in
    let step = steps.1 in
    let keys = ap keys_in step.rows ∙ keys_with_row (target_row r step.new) here.rows in
    steps_shorter basis (n + 1) relations steps.0 behind steps.2
    (subst (HaveShorter class) (sym keys)
    (with_shorter class r.target.points (keys_in here.rows) (target_shorter class here.rows r.target.points step.has_prefix) have))

-- the keys of a base that meets WF5 are so
pub begun_shorter : (basis : Basis) → AllByRecursion (MeetsWF5 basis.properties.class basis.base) basis.base
    → HaveShorter basis.properties.class (keys_in (begun basis).rows)
begun_shorter basis meets =
    subst (HaveShorter basis.properties.class) (sym (keys_of_drafts basis.base)) (keys_shorter basis.properties.class basis.base basis.base meets)
