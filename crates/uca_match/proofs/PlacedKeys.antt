-- Lemmas on a list of keys, each with its position in it: what is found at a key, and what one more key adds.
use Rattle.std.proofs.Common.{◌≡◌, ℕ, zero, suc, ◌+◌, ◌-◌, ◌<◌, ◌≤◌, List, [], ◌∷◌, ◌++◌, length, map, take, get_or, Bool, true, false, cond, Option, Some, None, Contains, MatchOption}
use Rattle.std.proofs.Common.{⊎_elim, is_some, option_map, append_assoc, length-take-le, sym, ap, ap₂, subst, refl, ◌∙◌, arith}
use Rattle.std.proofs.lemmas.Bool.{cond_both, cond-true, cond-false, false_from_ne_true}
use Rattle.std.proofs.lemmas.List.{get_or_append_left, get_or_push, length_push, length-map, map-append, map_push, map_more, take_more}
use Rattle.std.specs.Borrow.{Bor}
use Rattle.uca_weights.specs.declared.Element.{Element}
use Rattle.uca_values.specs.Content.{Entry, keys_of, AreDistinct}
use Rattle.uca_elements.specs.Rows.{same_key, rows_of}
use Rattle.uca_elements.specs.Positions.{Placed, is_placed, place_at, AreDistinctKeys, placed_from, AreLongKeys}
use Rattle.std.specs.List.Sorted.{IsPermutation}
use Rattle.std.proofs.lemmas.List.Elements.{Contains-push, Contains-push_cases, Contains-append_left}
use Rattle.std.proofs.lemmas.List.Sorted.{Contains-permutation, IsPermutation-sym}
use Rattle.uca_elements.specs.Lookups.{BeginsKeyIn, BeginsNoKeyIn, BeginsSomeKey, BeginsNoKey}
use Rattle.uca_match.specs.Tries.{positions}
use Rattle.uca_match.specs.NumberedKeys.{points_of, placed_of, TrieContent, rows_at}
use Rattle.uca_match.specs.declared.key_map.Numbered.{Numbered}
use Rattle.uca_elements.proofs.RowsByKey.{same_key-true, same_key-itself, Contains-first, Contains-later, Contains-cases}

-- what is found at a key is its position
pub placed_of_found : (place : ℕ) (keys : List (List ℕ)) (key : List ℕ) (position : ℕ) → place_at place keys key ≡ Some position →
    Contains (placed_from place keys) (record { key = key; position = position })
placed_of_found place [] key position found = cc
placed_of_found place (k ∷ keys) key position at_key =
    let here : Placed = record { key = key; position = position } in
    let first : Placed = record { key = k; position = place } in
    cond_both (same_key k key) (Some place) (place_at (place + 1) keys key)
    (λ o. o ≡ Some position → Contains (placed_from place (k ∷ keys)) here)
    (λ same found. let same_position : place ≡ position = cc in
    let same_placed : first ≡ here = λ i. record { key = same_key-true k key same i; position = same_position i } in
    Contains-first first here (placed_from (place + 1) keys) same_placed)
    (λ other found. Contains-later first here (placed_from (place + 1) keys) (placed_of_found (place + 1) keys key position found))
    at_key

-- a key with a position is one of the keys
key_of_placed : (place : ℕ) (keys : List (List ℕ)) (placed : Placed) → Contains (placed_from place keys) placed → Contains keys placed.key
key_of_placed place [] placed h = absurd (omega (arith, h.1))
key_of_placed place (k ∷ keys) placed h =
    ⊎_elim
    (λ same. Contains-first k placed.key keys (ap (λ (p : Placed). p.key) same))
    (λ later. Contains-later k placed.key keys (key_of_placed (place + 1) keys placed later))
    (Contains-cases (record { key = k; position = place }) placed (placed_from (place + 1) keys) h)

-- and where keys are distinct, its position is found at the key
pub found_of_placed : (place : ℕ) (keys : List (List ℕ)) → AreDistinctKeys keys → (placed : Placed) → Contains (placed_from place keys) placed →
    place_at place keys placed.key ≡ Some placed.position
found_of_placed place [] distinct placed h = absurd (omega (arith, h.1))
found_of_placed place (k ∷ keys) distinct placed h =
    ⊎_elim
    (λ same. cond-true (same_key k placed.key) (Some place) (place_at (place + 1) keys placed.key)
    (subst (λ (s : Placed). same_key k s.key ≡ true) same (same_key-itself k)) ∙ ap (λ (s : Placed). Some s.position) same)
    (λ later.
    let other : same_key k placed.key ≡ true →
    ⊥ = λ same. distinct.0 (subst (λ key. Contains keys key) (sym (same_key-true k placed.key same)) (key_of_placed (place + 1) keys placed later)) in
    cond-false (same_key k placed.key) (Some place) (place_at (place + 1) keys placed.key) (false_from_ne_true (same_key k placed.key) other)
    ∙ found_of_placed (place + 1) keys distinct.1 placed later)
    (Contains-cases (record { key = k; position = place }) placed (placed_from (place + 1) keys) h)

-- one more key
pub placed_push : (place : ℕ) (keys : List (List ℕ)) (key : List ℕ) →
    placed_from place (keys ++ key ∷ []) ≡ placed_from place keys ++ record { key = key; position = place + length keys } ∷ []
placed_push place [] key = ap (λ p. record { key = key; position = p } ∷ []) (let same : place ≡ place + 0 = omega arith in same)
placed_push place (k ∷ keys) key =
    ap (λ rest. record { key = k; position = place } ∷ rest)
    (placed_push (place + 1) keys key
    ∙ ap (λ p. placed_from (place + 1) keys ++ record { key = key; position = p } ∷ [])
    (let same : place + 1 + length keys ≡ place + suc (length keys) = omega arith in same))

-- a position is that of one of the keys
pub placed_within : (place : ℕ) (keys : List (List ℕ)) (key : List ℕ) (p : ℕ) → place_at place keys key ≡ Some p →
    (i : ℕ) × (i < length keys) × (p ≡ place + i)
placed_within place [] key p found = cc
placed_within place (k ∷ keys) key p found = go (same_key k key) found (placed_within (place + 1) keys key p)
  where
    go : (b : Bool) → cond b (Some place) (place_at (place + 1) keys key) ≡ Some p →
        (place_at (place + 1) keys key ≡ Some p → (i : ℕ) × (i < length keys) × (p ≡ place + 1 + i)) →
        (i : ℕ) × (i < suc (length keys)) × (p ≡ place + i)
    go true found later = let same : place ≡ p = cc in (0, omega arith, omega (arith, same))
    go false found later = let l = later found in (suc l.0, omega (arith, l.1), omega (arith, l.2))

-- the key at a position
pub placed_here : (place : ℕ) (keys : List (List ℕ)) (i : ℕ) (key : List ℕ) → i < length keys → key ≡ get_or keys i key →
    Contains (placed_from place keys) (record { key = key; position = place + i })
placed_here place [] i key within is = absurd (omega arith)
placed_here place (k ∷ keys) zero key within is =
    let here : Placed = record { key = key; position = place + 0 } in
    let same : place ≡ place + 0 = omega arith in
    Contains-first (record { key = k; position = place }) here (placed_from (place + 1) keys) (λ j. record { key = sym is j; position = same j })
placed_here place (k ∷ keys) (suc i) key within is =
    let same : place + 1 + i ≡ place + suc i = omega arith in
    let later = subst (λ n. Contains (placed_from (place + 1) keys) (record { key = key; position = n })) same
    (placed_here (place + 1) keys i key (omega arith) is) in
    Contains-later (record { key = k; position = place }) (record { key = key; position = place + suc i }) (placed_from (place + 1) keys) later

-- a key with its position is the one there
pub key_at_position : (place : ℕ) (keys : List (List ℕ)) (placed : Placed) → Contains (placed_from place keys) placed → (d : List ℕ) →
    (place ≤ placed.position) × (placed.position < place + length keys) × (placed.key ≡ get_or keys (placed.position - place) d)
key_at_position place [] placed h d = absurd (omega (arith, h.1))
key_at_position place (k ∷ keys) placed h d =
    ⊎_elim
    (λ same.
    let position : place ≡ placed.position = ap (λ (p : Placed). p.position) same in (
      omega arith,
      omega arith,
      sym (ap (λ (p : Placed). p.key) same) ∙ ap (λ n. get_or (k ∷ keys) n d) (let none : 0 ≡ placed.position - place = omega arith in none),
    ))
    (λ later.
    let it = key_at_position (place + 1) keys placed later d in
    let before : place + 1 ≤ placed.position = it.0 in (
      omega arith,
      omega (arith, it.1),
      it.2 ∙ ap (λ n. get_or (k ∷ keys) n d) (let next : suc (placed.position - (place + 1)) ≡ placed.position - place = omega arith in next),
    ))
    (Contains-cases (record { key = k; position = place }) placed (placed_from (place + 1) keys) h)

-- ---- The keys that are not one code point

-- one more key is one of them
pub long_more : (keys : List (List ℕ)) (list : List Placed) (key : List ℕ) (position : ℕ) → position ≡ length keys → (length key ≡ 1 → ⊥) →
    AreLongKeys keys list → AreLongKeys (keys ++ key ∷ []) (list ++ record { key = key; position = position } ∷ [])
long_more keys list key position its_position long are placed =
    let new : Placed = record { key = key; position = position } in
    let all : placed_from 0 (keys ++ key ∷ []) ≡ placed_from 0 keys ++ new ∷ [] = placed_push 0 keys key
    ∙ ap (λ n. placed_from 0 keys ++ record { key = key; position = n } ∷ []) (let same : 0 + length keys ≡ position = omega arith in same) in (
      (λ h. ⊎_elim
          (λ before. let both = (are placed).0 before in
          (subst (λ l. Contains l placed) (sym all) (Contains-append_left (placed_from 0 keys) (new ∷ []) placed both.0), both.1))
          (λ here. (
            subst (λ l. Contains l placed) (sym all)
                (subst (Contains (placed_from 0 keys ++ new ∷ [])) here (Contains-push (placed_from 0 keys) new)),
            λ short. long (ap (λ (p : Placed). length p.key) here ∙ short),
          ))
          (Contains-push_cases list new placed h)),
      (λ h. ⊎_elim
          (λ before. Contains-append_left list (new ∷ []) placed ((are placed).1 (before, h.1)))
          (λ here. subst (Contains (list ++ new ∷ [])) here (Contains-push list new))
          (Contains-push_cases (placed_from 0 keys) new placed (subst (λ l. Contains l placed) all h.0))),
    )

-- one more key is not
pub long_same : (keys : List (List ℕ)) (list : List Placed) (key : List ℕ) → length key ≡ 1 → AreLongKeys keys list → AreLongKeys (keys ++ key ∷ []) list
long_same keys list key short are placed =
    let new : Placed = record { key = key; position = 0 + length keys } in
    let all = placed_push 0 keys key in (
      (λ h. let both = (are placed).0 h in
          (subst (λ l. Contains l placed) (sym all) (Contains-append_left (placed_from 0 keys) (new ∷ []) placed both.0), both.1)),
      (λ h. ⊎_elim
          (λ before. (are placed).1 (before, h.1))
          (λ here. absurd (h.1 (sym (ap (λ (p : Placed). length p.key) here) ∙ short)))
          (Contains-push_cases (placed_from 0 keys) new placed (subst (λ l. Contains l placed) all h.0))),
    )

-- their order does not matter
pub long_moved : (keys : List (List ℕ)) (list moved : List Placed) → IsPermutation list moved → AreLongKeys keys list → AreLongKeys keys moved
long_moved keys list moved same are placed = (
  (λ h. (are placed).0 (Contains-permutation moved list placed (IsPermutation-sym list moved same) h)),
  (λ h. Contains-permutation list moved placed same ((are placed).1 h)),
)

-- ---- Keys that are borrowed

-- two lists that are the same under two maps stay so when each gets one more item
pub mapped_more : {X Y Z : Type 0} (f : Y → Z) (g : X → Z) (before after : List Y) (xs : List X) (i : ℕ) (y : Y) (x : X) → i < length xs → x ≡ get_or xs i x →
    f y ≡ g x → after ≡ before ++ y ∷ [] → map f before ≡ map g (take i xs) → map f after ≡ map g (take (i + 1) xs)
mapped_more {X} {Y} {Z} f g before after xs i y x within is same grown so_far =
    ap (map f) grown
    ∙ map_push f before y
    ∙ ap₂ (λ (front : List Z) (z : Z). front ++ z ∷ []) so_far (same ∙ ap g is)
    ∙ sym (map_more g xs i x within)

-- one more key that is borrowed
points_more : (keys : List (Bor (List ℕ))) (i : ℕ) (key : Bor (List ℕ)) → i < length keys → key ≡ get_or keys i key →
    points_of (take (i + 1) keys) ≡ points_of (take i keys) ++ key.now ∷ []
points_more keys i key within is =
    ap points_of (take_more keys i key within ∙ ap (λ (k : Bor (List ℕ)). take i keys ++ k ∷ []) (sym is))
    ∙ map-append (λ (k : Bor (List ℕ)). k.now) (take i keys) (key ∷ [])

-- it is not one code point
pub long_keys_more : (list : List Numbered) (keys : List (Bor (List ℕ))) (i : ℕ) (new : Numbered) → i < length keys → new.key ≡ get_or keys i new.key →
    new.position ≡ i → (length new.key.now ≡ 1 → ⊥) → AreLongKeys (points_of (take i keys)) (map placed_of list) →
    AreLongKeys (points_of (take (i + 1) keys)) (map placed_of (list ++ new ∷ []))
long_keys_more list keys i new within is its_position long so_far =
    let before : List (List ℕ) = points_of (take i keys) in
    let count : new.position ≡ length before =
    omega (arith, its_position, length-map (take i keys) (λ (k : Bor (List ℕ)). k.now), length-take-le i keys (omega arith)) in
    subst (λ l. AreLongKeys (points_of (take (i + 1) keys)) l) (sym (map-append placed_of list (new ∷ [])))
    (subst (λ ks. AreLongKeys ks (map placed_of list ++ placed_of new ∷ [])) (sym (points_more keys i new.key within is))
    (long_more before (map placed_of list) new.key.now new.position count long so_far))

-- it is one
pub long_keys_same : (list : List Placed) (keys : List (Bor (List ℕ))) (i : ℕ) (key : Bor (List ℕ)) → i < length keys → key ≡ get_or keys i key →
    length key.now ≡ 1 → AreLongKeys (points_of (take i keys)) list → AreLongKeys (points_of (take (i + 1) keys)) list
long_keys_same list keys i key within is short so_far =
    subst (λ ks. AreLongKeys ks list) (sym (points_more keys i key within is)) (long_same (points_of (take i keys)) list key.now short so_far)

-- ---- The rows of a table by the positions of their keys

-- the keys of distinct rows are distinct
pub distinct_keys : (rows : List Entry) → AreDistinct rows → AreDistinctKeys (keys_of rows)
distinct_keys [] distinct = tt
distinct_keys (row ∷ rows) distinct = (distinct.0, distinct_keys rows distinct.1)

-- the elements of a key are at its position, if these elements come before those of the rows
rows_after : (front : List (List Element)) (rows : List Entry) (key : List ℕ) →
    rows_of rows key ≡ option_map (λ p. get_or (front ++ map (λ (r : Entry). r.elements) rows) p []) (place_at (length front) (keys_of rows) key)
rows_after front [] key = refl
rows_after front (row ∷ rows) key = go (same_key row.key key) (rows_after (front ++ row.elements ∷ []) rows key)
  where
    all : List (List Element)
    all = map (λ (r : Entry). r.elements) rows

    go : (b : Bool) →
        rows_of rows key ≡ option_map (λ p. get_or ((front ++ row.elements ∷ []) ++ all) p [])
        (place_at (length (front ++ row.elements ∷ [])) (keys_of rows) key) →
        cond b (Some row.elements) (rows_of rows key)
        ≡ option_map (λ p. get_or (front ++ row.elements ∷ all) p []) (cond b (Some (length front)) (place_at (length front + 1) (keys_of rows) key))
    go true later =
        ap Some (sym (ap (λ (es : List (List Element)). get_or es (length front) []) (sym (append_assoc front (row.elements ∷ []) all))
        ∙ get_or_append_left (front ++ row.elements ∷ []) all [] (length front) (omega (arith, length_push front row.elements))
        ∙ get_or_push front row.elements [] (length front) refl))
    go false later =
        let count : length (front ++ row.elements ∷ []) ≡ length front + 1 = omega (arith, length_push front row.elements) in
        later ∙ ap₂ (λ (es : List (List Element)) (n : ℕ). option_map (λ p. get_or es p []) (place_at n (keys_of rows) key))
        (append_assoc front (row.elements ∷ []) all) count

-- the elements of a key are at its position
pub rows_by_position : (rows : List Entry) (key : List ℕ) →
    rows_of rows key ≡ option_map (λ p. get_or (map (λ (r : Entry). r.elements) rows) p []) (place_at 0 (keys_of rows) key)
rows_by_position rows key = rows_after [] rows key

-- ---- The keys of a trie

-- a list of code points is a key of a trie exactly where it has a position
pub keys_of_trie : (trie : TrieContent) (key : List ℕ) → is_some (rows_at trie key) ≡ is_some (positions trie.keys key)
keys_of_trie trie key = go (positions trie.keys key)
  where
    go : (o : Option ℕ) → is_some (option_map (λ p. get_or trie.rows p []) o) ≡ is_some o
    go None = refl
    go (Some p) = refl

-- so a step in its keys is a step in its rows
pub step_of_trie : (trie : TrieContent) (begin : List ℕ) {X : Type 0} (found : Option X) (P : X → Type 0) →
    MatchOption found (BeginsNoKeyIn (is_placed (positions trie.keys)) begin) (λ x. BeginsKeyIn (is_placed (positions trie.keys)) begin × P x) →
    MatchOption found (BeginsNoKey (rows_at trie) begin) (λ x. BeginsSomeKey (rows_at trie) begin × P x)
step_of_trie trie begin None P none = λ some. none (some.0, sym (keys_of_trie trie (begin ++ some.0)) ∙ some.1)
step_of_trie trie begin (Some x) P found = ((found.0.0, keys_of_trie trie (begin ++ found.0.0) ∙ found.0.1), found.1)
