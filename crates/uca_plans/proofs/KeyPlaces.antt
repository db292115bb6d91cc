-- The positions of keys, and what one more key changes.
use Rattle.std.proofs.Common.{◌≡◌, ◌≢◌, ℕ, ◌+◌, List, [], ◌∷◌, ◌++◌, Bool, true, false, cond, ◌||◌, is_some, Some, None, refl, sym, ap, ◌∙◌, ⊎_elim}
use Rattle.std.specs.List.{AllByRecursion}
use Rattle.std.proofs.Math.Bool.{or-false}
use Rattle.std.proofs.lemmas.Bool.{false≢true, false_from_ne_true, cond-true, cond-false, cases_Bool}
use Rattle.uca_relations.specs.declared.Relation.{Relation}
use Rattle.uca_elements.specs.Rows.{same_key}
use Rattle.uca_elements.proofs.RowsByKey.{same_key-true, same_key-itself}
use Rattle.uca_plans.specs.Drafts.{DraftRow, with_row, has_key, draft_at}
use Rattle.uca_plans.specs.Readings.{IsOneMore}
use Rattle.uca_elements.specs.Positions.{place_at}
use Rattle.uca_plans.specs.Keys.{keys_in, is_among, with_key, with_targets}

-- other keys are not the same key
pub same_key-other : (a b : List ℕ) → a ≢ b → same_key a b ≡ false
same_key-other a b other = false_from_ne_true (same_key a b) (λ same. other (same_key-true a b same))

-- the test says that its two keys are the same
pub same_key-sym : (a b : List ℕ) → same_key a b ≡ same_key b a
same_key-sym a b =
    ⊎_elim
    (λ same. ap (λ k. same_key k b) (same_key-true a b same) ∙ ap (λ k. same_key b k) (sym (same_key-true a b same)))
    (λ other. other ∙ sym (same_key-other b a (λ e. false≢true (sym other ∙ ap (λ k. same_key a k) e ∙ same_key-itself a))))
    (cases_Bool (same_key a b))

-- ---- Rows by their keys

-- a key has a row exactly where it has elements
pub has_draft : (rows : List DraftRow) (key : List ℕ) → is_some (draft_at rows key) ≡ has_key rows key
has_draft [] key = refl
has_draft (row ∷ rows) key = go (same_key row.key key) (has_draft rows key)
  where
    go : (b : Bool) → is_some (draft_at rows key) ≡ has_key rows key →
        is_some (cond b (Some row.elements) (draft_at rows key)) ≡ (b || has_key rows key)
    go true later = refl
    go false later = later

pub has_key_is : (rows : List DraftRow) (key : List ℕ) → has_key rows key ≡ is_among (keys_in rows) key
has_key_is [] key = refl
has_key_is (row ∷ rows) key = ap (λ b. same_key row.key key || b) (has_key_is rows key)

-- one more row is one more key
pub keys_with_row : (new : DraftRow) (rows : List DraftRow) → keys_in (with_row new rows) ≡ with_key new.key (keys_in rows)
keys_with_row new [] = refl
keys_with_row new (row ∷ rows) = go (same_key row.key new.key) refl (keys_with_row new rows)
  where
    go : (b : Bool) → same_key row.key new.key ≡ b → keys_in (with_row new rows) ≡ with_key new.key (keys_in rows) →
        keys_in (cond b (new ∷ rows) (row ∷ with_row new rows)) ≡ cond b (row.key ∷ keys_in rows) (row.key ∷ with_key new.key (keys_in rows))
    go true e later = ap (λ k. k ∷ keys_in rows) (sym (same_key-true row.key new.key e))
    go false e later = ap (λ keys. row.key ∷ keys) later

-- ---- One more key

-- it comes after the others, if it is none of them
pub with_key_is : (new : List ℕ) (keys : List (List ℕ)) → with_key new keys ≡ cond (is_among keys new) keys (keys ++ new ∷ [])
with_key_is new [] = refl
with_key_is new (key ∷ keys) = go (same_key key new) (is_among keys new) (with_key_is new keys)
  where
    go : (b c : Bool) → with_key new keys ≡ cond c keys (keys ++ new ∷ []) →
        cond b (key ∷ keys) (key ∷ with_key new keys) ≡ cond (b || c) (key ∷ keys) (key ∷ keys ++ new ∷ [])
    go true c later = refl
    go false true later = ap (λ more. key ∷ more) later
    go false false later = ap (λ more. key ∷ more) later

-- what is true of each key and of one more is true of each with it
pub each_with_key : (P : List ℕ → Type 0) (new : List ℕ) (keys : List (List ℕ)) → P new → AllByRecursion P keys → AllByRecursion P (with_key new keys)
each_with_key P new [] here each = (here, tt)
each_with_key P new (key ∷ keys) here each = go (same_key key new) (each_with_key P new keys here each.1)
  where
    -- by whether it is the first
    go : (b : Bool) → AllByRecursion P (with_key new keys) → AllByRecursion P (cond b (key ∷ keys) (key ∷ with_key new keys))
    go true later = each
    go false later = (each.0, later)

-- the keys are then the others and it
pub among_with_key : (new : List ℕ) (keys : List (List ℕ)) (key : List ℕ) → is_among (with_key new keys) key ≡ (is_among keys key || same_key new key)
among_with_key new [] key = or-false (same_key new key)
among_with_key new (k ∷ keys) key = go (same_key k new) refl (same_key k key) refl (among_with_key new keys key)
  where
    go : (b : Bool) → same_key k new ≡ b → (c : Bool) → same_key k key ≡ c → is_among (with_key new keys) key ≡ (is_among keys key || same_key new key) →
        is_among (cond b (k ∷ keys) (k ∷ with_key new keys)) key ≡ ((c || is_among keys key) || same_key new key)
    go true e true f later = ap (λ d. d || is_among keys key) f
    go false e true f later = ap (λ d. d || is_among (with_key new keys) key) f
    go true e false f later =
        let other : same_key new key ≡ false = ap (λ n. same_key n key) (sym (same_key-true k new e)) ∙ f in
        ap (λ d. d || is_among keys key) f ∙ sym (ap (λ d. is_among keys key || d) other ∙ or-false (is_among keys key))
    go false e false f later = ap (λ d. d || is_among (with_key new keys) key) f ∙ later

-- a key keeps its position, unless it is the new one
pub place_stays : (place : ℕ) (new : List ℕ) (keys : List (List ℕ)) (key : List ℕ) → (same_key new key ≡ true → is_among keys key ≡ true) →
    place_at place (with_key new keys) key ≡ place_at place keys key
place_stays place new [] key there =
    cond-false (same_key new key) (Some place) None (false_from_ne_true (same_key new key) (λ same. false≢true (there same)))
place_stays place new (k ∷ keys) key there = go (same_key k new) (same_key k key) refl (place_stays (place + 1) new keys key)
  where
    go : (b c : Bool) → same_key k key ≡ c →
        ((same_key new key ≡ true → is_among keys key ≡ true) → place_at (place + 1) (with_key new keys) key ≡ place_at (place + 1) keys key) →
        place_at place (cond b (k ∷ keys) (k ∷ with_key new keys)) key ≡ place_at place (k ∷ keys) key
    go true c e later = refl
    go false true e later =
        cond-true (same_key k key) (Some place) (place_at (place + 1) (with_key new keys) key) e
        ∙ sym (cond-true (same_key k key) (Some place) (place_at (place + 1) keys key) e)
    go false false e later =
        ap (cond (same_key k key) (Some place))
        (later (λ same. let here : (same_key k key || is_among keys key) ≡ true = there same in ap (λ b. b || is_among keys key) (sym e) ∙ here))

-- keys that are none of the targets are as they were where targets come after the keys
pub among_left : (relations : List Relation) (keys : List (List ℕ)) (key : List ℕ) → AllByRecursion (λ r. r.target.points ≢ key) relations →
    is_among (with_targets relations keys) key ≡ is_among keys key
among_left [] keys key others = refl
among_left (r ∷ relations) keys key others =
    among_left relations (with_key r.target.points keys) key others.1
    ∙ among_with_key r.target.points keys key
    ∙ ap (λ b. is_among keys key || b) (same_key-other r.target.points key others.0)
    ∙ or-false (is_among keys key)

-- ---- One more row

-- its key has its elements
row_its_own : (new : DraftRow) (rows : List DraftRow) → draft_at (with_row new rows) new.key ≡ Some new.elements
row_its_own new [] = cond-true (same_key new.key new.key) (Some new.elements) None (same_key-itself new.key)
row_its_own new (row ∷ rows) = go (same_key row.key new.key) refl (row_its_own new rows)
  where
    go : (b : Bool) → same_key row.key new.key ≡ b → draft_at (with_row new rows) new.key ≡ Some new.elements →
        draft_at (cond b (new ∷ rows) (row ∷ with_row new rows)) new.key ≡ Some new.elements
    go true e later = cond-true (same_key new.key new.key) (Some new.elements) (draft_at rows new.key) (same_key-itself new.key)
    go false e later = cond-false (same_key row.key new.key) (Some row.elements) (draft_at (with_row new rows) new.key) e ∙ later

-- and other keys have theirs
row_of_others : (new : DraftRow) (rows : List DraftRow) (key : List ℕ) → key ≢ new.key → draft_at (with_row new rows) key ≡ draft_at rows key
row_of_others new [] key other = cond-false (same_key new.key key) (Some new.elements) None (same_key-other new.key key (λ e. other (sym e)))
row_of_others new (row ∷ rows) key other = go (same_key row.key new.key) refl (row_of_others new rows key other)
  where
    not_new : same_key new.key key ≡ false
    not_new = same_key-other new.key key (λ e. other (sym e))

    go : (b : Bool) → same_key row.key new.key ≡ b → draft_at (with_row new rows) key ≡ draft_at rows key →
        draft_at (cond b (new ∷ rows) (row ∷ with_row new rows)) key ≡ draft_at (row ∷ rows) key
    go true e later =
        cond-false (same_key new.key key) (Some new.elements) (draft_at rows key) not_new
        ∙ sym (cond-false (same_key row.key key) (Some row.elements) (draft_at rows key) (ap (λ k. same_key k key) (same_key-true row.key new.key e) ∙ not_new))
    go false e later = ap (cond (same_key row.key key) (Some row.elements)) later

-- one more row: what each key then has, and where it is
pub one_more_row : (new : DraftRow) (rows : List DraftRow) → IsOneMore new rows
one_more_row new rows =
    record {
      its_own = row_its_own new rows;
      others = row_of_others new rows;
      keys = keys_with_row new rows ∙ with_key_is new.key (keys_in rows)
          ∙ ap (λ b. cond b (keys_in rows) (keys_in rows ++ new.key ∷ [])) (sym (has_key_is rows new.key));
      places = λ key there. ap (λ keys. place_at 0 keys key) (keys_with_row new rows)
          ∙ place_stays 0 new.key (keys_in rows) key (λ _. sym (has_key_is rows key) ∙ there);
    }
