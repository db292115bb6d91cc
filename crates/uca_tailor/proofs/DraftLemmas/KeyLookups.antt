-- At which position a key is found in a list of keys, and in two lists in turn.
use Rattle.std.proofs.Common.{◌≡◌, ℕ, suc, ◌+◌, List, [], ◌∷◌, ◌++◌, length, Bool, true, false, cond, ltb, ◌||◌, is_some, Option, Some, None, Result, Ok, Err, IfOk}
use Rattle.std.proofs.Common.{MatchOption, refl, sym, ap, ◌∙◌, arith}
use Rattle.std.proofs.lemmas.Bool.{false≢true, cond-false, or_parts, lt-ltb, le-ltb}
use Rattle.uca_relations.specs.declared.Relation.{Relation}
use Rattle.uca_elements.specs.Rows.{same_key}
use Rattle.uca_elements.specs.Positions.{Positions, place_at}
use Rattle.uca_match.proofs.PlacedKeys.{placed_within}
use Rattle.uca_plans.specs.Keys.{is_among}
use Rattle.uca_tailor.specs.inside.KeyRows.{IsRowOf, AreListed, ArePositions}
use Rattle.uca_tailor.proofs.DraftLemmas.MatchReadings.{placed_among}

-- a position that is found is the key's, and a key without one is none of them
pub row_found : (keys : List (List ℕ)) (key : List ℕ) (at : Option ℕ) → place_at 0 keys key ≡ at →
    MatchOption at (is_among keys key ≡ false) (IsRowOf keys key)
row_found keys key None none = sym (placed_among 0 keys key) ∙ ap is_some none
row_found keys key (Some at) found =
    let there = placed_within 0 keys key at found in
    record { within = omega (arith, there.1, there.2); stands = found }

-- ---- The first of more keys

-- a key is among two lists of keys where it is among one of them
among_append : (keys more : List (List ℕ)) (key : List ℕ) → is_among (keys ++ more) key ≡ (is_among keys key || is_among more key)
among_append [] more key = refl
among_append (k ∷ keys) more key = go (same_key k key) (among_append keys more key)
  where
    go : (b : Bool) → is_among (keys ++ more) key ≡ (is_among keys key || is_among more key) →
        (b || is_among (keys ++ more) key) ≡ ((b || is_among keys key) || is_among more key)
    go true later = refl
    go false later = later

-- what is not among all is not among the first
pub not_in_front : (keys more : List (List ℕ)) (key : List ℕ) → is_among (keys ++ more) key ≡ false → is_among keys key ≡ false
not_in_front keys more key other = (or_parts (is_among keys key) (is_among more key) (sym (among_append keys more key) ∙ other)).0

-- a key of the first ones has its position among them
pub row_in_front : (at : ℕ) (keys more : List (List ℕ)) (key : List ℕ) → is_among keys key ≡ true →
    place_at at (keys ++ more) key ≡ place_at at keys key
row_in_front at [] more key there = absurd (false≢true there)
row_in_front at (k ∷ keys) more key there = go (same_key k key) there (row_in_front (at + 1) keys more key)
  where
    go : (b : Bool) → (b || is_among keys key) ≡ true →
        (is_among keys key ≡ true → place_at (at + 1) (keys ++ more) key ≡ place_at (at + 1) keys key) →
        cond b (Some at) (place_at (at + 1) (keys ++ more) key) ≡ cond b (Some at) (place_at (at + 1) keys key)
    go true there later = refl
    go false there later = later there

-- any other has its position after them
row_at_back : (at : ℕ) (keys more : List (List ℕ)) (key : List ℕ) → is_among keys key ≡ false →
    place_at at (keys ++ more) key ≡ place_at (at + length keys) more key
row_at_back at [] more key other = ap (λ p. place_at p more key) (let same : at ≡ at + 0 = omega arith in same)
row_at_back at (k ∷ keys) more key other =
    let parts = or_parts (same_key k key) (is_among keys key) other in
    cond-false (same_key k key) (Some at) (place_at (at + 1) (keys ++ more) key) parts.0
    ∙ row_at_back (at + 1) keys more key parts.1
    ∙ ap (λ p. place_at p more key) (let same : at + 1 + length keys ≡ at + suc (length keys) = omega arith in same)

-- a key is one of the first if its position is less than their number
pub front_is : (keys more : List (List ℕ)) (key : List ℕ) (at : ℕ) → IsRowOf (keys ++ more) key at → ltb at (length keys) ≡ is_among keys key
front_is keys more key at stands = go (is_among keys key) refl
  where
    go : (b : Bool) → is_among keys key ≡ b → ltb at (length keys) ≡ b
    go true there =
        let found = placed_within 0 keys key at (sym (row_in_front 0 keys more key there) ∙ stands.stands) in
        lt-ltb at (length keys) (omega (arith, found.1, found.2))
    go false other =
        let found = placed_within (0 + length keys) more key at (sym (row_at_back 0 keys more key other) ∙ stands.stands) in
        le-ltb at (length keys) (omega (arith, found.2))

-- ---- The positions that a map has

-- a map of the keys has their positions
pub listed_positions : {T E : Type 0} (tells : T → Positions) (result : Result T E) (base : List (List ℕ)) (relations : List Relation)
    (keys : List (List ℕ)) → IfOk result (λ positions. (key : List ℕ) → tells positions key ≡ place_at 0 keys key) → AreListed base relations keys →
    IfOk result (λ positions. ArePositions base relations (tells positions))
listed_positions tells (Err e) base relations keys h listed = tt
listed_positions tells (Ok positions) base relations keys h listed = record { keys = keys; all = listed; each = h }
