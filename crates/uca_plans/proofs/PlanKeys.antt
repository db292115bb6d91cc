-- The keys of a plan's rows: those of the base and then the new targets, each once.
use Rattle.std.proofs.Common.{◌≡◌, ℕ, zero, suc, ◌+◌, ◌<◌, List, [], ◌∷◌, length, map, get_or, Bool, true, false, cond, ◌||◌, Contains, refl, sym, ap, ◌∙◌}
use Rattle.std.proofs.Common.{⊎_elim, arith, is_some, Some}
use Rattle.std.proofs.lemmas.Bool.{false≢true, false_from_ne_true, or_cases, or_left, or_right, or_from}
use Rattle.uca_values.specs.Content.{Entry, keys_of, AreDistinct}
use Rattle.uca_relations.specs.declared.Relation.{Relation}
use Rattle.uca_elements.specs.Rows.{rows_of, same_key}
use Rattle.uca_elements.proofs.RowsByKey.{same_key-true, same_key-itself}
use Rattle.uca_plans.specs.Drafts.{DraftRow, row_as_draft}
use Rattle.uca_plans.specs.Plans.{Basis, Drafting, begun, LevelPlans, numbered_row}
use Rattle.uca_plans.specs.Keys.{keys_in, is_among, with_key, with_targets}
use Rattle.uca_plans.proofs.KeyPlaces.{keys_with_row, among_with_key, same_key-sym}
use Rattle.uca_plans.proofs.PlanSteps.{AreSteps, target_row}

-- each relation brings its target
pub keys_along : (basis : Basis) (n : ℕ) (relations : List Relation) (here behind : Drafting) → AreSteps basis n relations here behind →
    keys_in behind.rows ≡ with_targets relations (keys_in here.rows)
keys_along basis n [] here behind steps = ap (λ (d : Drafting). keys_in d.rows) (sym steps)
keys_along basis n (r ∷ relations) here behind steps =
    keys_along basis (n + 1) relations steps.0 behind steps.2
    ∙ ap (with_targets relations) (ap keys_in steps.1.rows ∙ keys_with_row (target_row r steps.1.new) here.rows)

-- drafts of rows have their keys, and so have numbered drafts
pub keys_of_drafts : (rows : List Entry) → keys_in (map row_as_draft rows) ≡ keys_of rows
keys_of_drafts [] = refl
keys_of_drafts (row ∷ rows) = ap (λ keys. row.key ∷ keys) (keys_of_drafts rows)

pub keys_of_numbered : (plans : LevelPlans) (rows : List DraftRow) → keys_of (map (numbered_row plans) rows) ≡ keys_in rows
keys_of_numbered plans [] = refl
keys_of_numbered plans (row ∷ rows) = ap (λ keys. row.key ∷ keys) (keys_of_numbered plans rows)

-- the keys of all relations up to one are those of the base and the targets
pub keys_so_far : (basis : Basis) (relations : List Relation) (behind : Drafting) → AreSteps basis 0 relations (begun basis) behind →
    keys_in behind.rows ≡ with_targets relations (keys_of basis.base)
keys_so_far basis relations behind steps = keys_along basis 0 relations (begun basis) behind steps ∙ ap (with_targets relations) (keys_of_drafts basis.base)

-- a row of a key is found exactly where it is among the keys
pub found_among : (rows : List Entry) (key : List ℕ) → is_some (rows_of rows key) ≡ is_among (keys_of rows) key
found_among [] key = refl
found_among (row ∷ rows) key = go (same_key row.key key) (found_among rows key)
  where
    go : (b : Bool) → is_some (rows_of rows key) ≡ is_among (keys_of rows) key →
        is_some (cond b (Some row.elements) (rows_of rows key)) ≡ (b || is_among (keys_of rows) key)
    go true later = refl
    go false later = later

-- ---- Each key once

abbrev pub AreApart : List (List ℕ) → Type 0
AreApart [] = Unit {0}
AreApart (key ∷ keys) = (is_among keys key ≡ false) × AreApart keys

pub among_contained : (keys : List (List ℕ)) (key : List ℕ) → Contains keys key → is_among keys key ≡ true
among_contained [] key h = absurd (omega (arith, h.1))
among_contained (k ∷ keys) key h = go h.0 h.1 h.2 (among_contained keys key)
  where
    go : (i : ℕ) → i < length (k ∷ keys) → get_or (k ∷ keys) i key ≡ key → (Contains keys key → is_among keys key ≡ true) →
        (same_key k key || is_among keys key) ≡ true
    go zero within e later = or_left (same_key k key) (is_among keys key) (ap (λ x. same_key x key) e ∙ same_key-itself key)
    go (suc i) within e later = or_right (same_key k key) (is_among keys key) (later (i, omega (arith, within), e))

pub contained_among : (keys : List (List ℕ)) (key : List ℕ) → is_among keys key ≡ true → Contains keys key
contained_among [] key h = absurd (false≢true h)
contained_among (k ∷ keys) key h =
    ⊎_elim
    (λ here. (0, omega arith, same_key-true k key here))
    (λ later. let there = contained_among keys key later in (suc there.0, omega (arith, there.1), there.2))
    (or_cases (same_key k key) (is_among keys key) h)

-- distinct keys are those of distinct rows
pub apart_of_distinct : (rows : List Entry) → AreDistinct rows → AreApart (keys_of rows)
apart_of_distinct [] distinct = tt
apart_of_distinct (row ∷ rows) distinct = (
  false_from_ne_true (is_among (keys_of rows) row.key) (λ there. distinct.0 (contained_among (keys_of rows) row.key there)),
  apart_of_distinct rows distinct.1,
)

pub distinct_of_apart : (rows : List Entry) → AreApart (keys_of rows) → AreDistinct rows
distinct_of_apart [] apart = tt
distinct_of_apart (row ∷ rows) apart =
    (λ there. false≢true (sym apart.0 ∙ among_contained (keys_of rows) row.key there), distinct_of_apart rows apart.1)

-- they are distinct with one more key
pub apart_with_key : (new : List ℕ) (keys : List (List ℕ)) → AreApart keys → AreApart (with_key new keys)
apart_with_key new [] apart = (refl, tt)
apart_with_key new (key ∷ keys) apart = go (same_key key new) refl (apart_with_key new keys apart.1)
  where
    go : (b : Bool) → same_key key new ≡ b → AreApart (with_key new keys) → AreApart (cond b (key ∷ keys) (key ∷ with_key new keys))
    go true e later = apart
    go false e later =
        (among_with_key new keys key ∙ or_from (is_among keys key) (same_key new key) apart.0 (same_key-sym new key ∙ e), later)
