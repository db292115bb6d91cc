-- The keys of a base and the targets of relations, each once: the list that gives keys their positions.
use Rattle.std.proofs.Common.{◌≡◌, ℕ, ◌+◌, ◌<◌, ◌≤◌, List, [], ◌∷◌, ◌++◌, length, take, drop, get_or, true, false, is_some, Option, Result, Ok, Err, IfOk}
use Rattle.std.proofs.Common.{Bor, refl, sym, ap, ap₂, subst, ◌∙◌, ⊎_elim, arith, length-append, append_assoc, append-nil, take-append-drop}
use Rattle.std.proofs.lemmas.List.{take_more, take_all, length-map, map-append}
use Rattle.std.proofs.lemmas.Bool.{false≢true, false_from_ne_true, cond-true, cond-false}
use Rattle.uca_values.specs.Content.{Entry, keys_of, AreRows}
use Rattle.uca_relations.specs.declared.Relation.{Relation}
use Rattle.uca_relations.specs.Relations.{AreDistinct}
use Rattle.uca_elements.specs.Positions.{AreDistinctKeys, place_at}
use Rattle.uca_match.specs.NumberedKeys.{points_of}
use Rattle.uca_match.proofs.PlacedKeys.{distinct_keys}
use Rattle.uca_plans.specs.Keys.{is_among, with_key, with_targets}
use Rattle.uca_plans.proofs.KeyPlaces.{with_key_is}
use Rattle.uca_plans.proofs.SameReading.{among_kept, target_of_among, targets_append}
use Rattle.uca_plans.proofs.PlanKeys.{AreApart, among_contained, apart_of_distinct, apart_with_key}
use Rattle.uca_tailor.specs.inside.KeyRows.{AreListed}
use Rattle.uca_tailor.proofs.DraftLemmas.MatchReadings.{placed_among}

-- ---- Base keys and targets

-- a target that is no base key is new
pub new_target : (keys : List (List ℕ)) (before after : List Relation) (r : Relation) → AreDistinct (before ++ r ∷ after) →
    is_among keys r.target.points ≡ false → is_among (with_targets before keys) r.target.points ≡ false
new_target keys before after r distinct other =
    false_from_ne_true (is_among (with_targets before keys) r.target.points)
    (λ there. ⊎_elim (λ old. false≢true (sym other ∙ old)) (λ target. distinct before after r refl target) (target_of_among before keys r.target.points there))

-- one more target is one more key
pub targets_more : (before : List Relation) (r : Relation) (keys : List (List ℕ)) →
    with_targets (before ++ r ∷ []) keys ≡ with_key r.target.points (with_targets before keys)
targets_more before r keys = targets_append before (r ∷ []) keys

-- unless it is a base key
pub targets_same : (before : List Relation) (r : Relation) (keys : List (List ℕ)) → is_among keys r.target.points ≡ true →
    with_targets (before ++ r ∷ []) keys ≡ with_targets before keys
targets_same before r keys there =
    targets_more before r keys ∙ with_key_is r.target.points (with_targets before keys)
    ∙ cond-true (is_among (with_targets before keys) r.target.points) (with_targets before keys) (with_targets before keys ++ r.target.points ∷ [])
    (among_kept before keys r.target.points there)

-- a new one comes after the others
pub targets_after : (before : List Relation) (r : Relation) (keys : List (List ℕ)) → is_among (with_targets before keys) r.target.points ≡ false →
    with_targets (before ++ r ∷ []) keys ≡ with_targets before keys ++ r.target.points ∷ []
targets_after before r keys other =
    targets_more before r keys ∙ with_key_is r.target.points (with_targets before keys)
    ∙ cond-false (is_among (with_targets before keys) r.target.points) (with_targets before keys) (with_targets before keys ++ r.target.points ∷ []) other

-- ---- Each key once

-- each of them once
apart_targets : (relations : List Relation) (keys : List (List ℕ)) → AreApart keys → AreApart (with_targets relations keys)
apart_targets [] keys apart = apart
apart_targets (r ∷ relations) keys apart = apart_targets relations (with_key r.target.points keys) (apart_with_key r.target.points keys apart)

-- keys that are apart are distinct
distinct_of_apart : (keys : List (List ℕ)) → AreApart keys → AreDistinctKeys keys
distinct_of_apart [] apart = tt
distinct_of_apart (key ∷ keys) apart = (λ there. false≢true (sym apart.0 ∙ among_contained keys key there), distinct_of_apart keys apart.1)

-- the keys that have positions are distinct
pub distinct_listed : (rows : List Entry) (relations : List Relation) (keys : List (List ℕ)) → AreRows rows →
    AreListed (keys_of rows) relations keys → AreDistinctKeys keys
distinct_listed rows relations keys base all =
    distinct_of_apart keys (subst AreApart (sym all.are) (apart_targets all.listed (keys_of rows) (apart_of_distinct rows base.distinct)))

-- so are the keys of a result, if it has any
pub distinct_result : {X E : Type 0} (rows : List Entry) (relations : List Relation) (keys : X → List (List ℕ)) (r : Result X E) → AreRows rows →
    IfOk r (λ x. AreListed (keys_of rows) relations (keys x)) → IfOk r (λ x. AreDistinctKeys (keys x))
distinct_result rows relations keys (Ok x) base all = distinct_listed rows relations (keys x) base all
distinct_result rows relations keys (Err e) base all = tt

-- and those of a base
pub distinct_base : (rows : List Entry) (keys : List (List ℕ)) → AreRows rows → keys ≡ keys_of rows → AreDistinctKeys keys
distinct_base rows keys base are = subst AreDistinctKeys (sym are) (distinct_keys rows base.distinct)

-- ---- Keys that are borrowed

-- one more key that is lent
pub points_push : (keys : List (Bor (List ℕ))) (key : Bor (List ℕ)) → points_of (keys ++ key ∷ []) ≡ points_of keys ++ key.now ∷ []
points_push keys key = map-append (λ (k : Bor (List ℕ)). k.now) keys (key ∷ [])

-- ---- One target after the other

-- relations so far, and one more
pub relations_more : (relations : List Relation) (i : ℕ) (r : Relation) → i < length relations → r ≡ get_or relations i r →
    take (i + 1) relations ≡ take i relations ++ r ∷ []
relations_more relations i r within is = take_more relations i r within ∙ ap (λ s. take i relations ++ s ∷ []) (sym is)

-- all relations are those so far, this one and those after it
pub relations_around : (relations : List Relation) (i : ℕ) (r : Relation) → i < length relations → r ≡ get_or relations i r →
    relations ≡ take i relations ++ r ∷ drop (i + 1) relations
relations_around relations i r within is =
    sym (take-append-drop (i + 1) relations)
    ∙ ap (λ front. front ++ drop (i + 1) relations) (relations_more relations i r within is)
    ∙ append_assoc (take i relations) (r ∷ []) (drop (i + 1) relations)

-- keys so far, at most as many as a table has rows
pub record AreKeysUpTo (keys points : List (List ℕ)) : Type 0 where
  pub are : points ≡ keys
  pub few : length points ≤ 200000

-- the keys of a base are no more than a table has rows
pub few_keys : (rows : List Entry) (points : List (List ℕ)) → AreRows rows → points ≡ keys_of rows → length points ≤ 200000
few_keys rows points base are = omega (arith, base.few, ap length are, length-map rows (λ (r : Entry). r.key))

-- a target has a position exactly where it is among the keys
pub target_found : (points keys : List (List ℕ)) (key target : List ℕ) (at : Option ℕ) → points ≡ keys → key ≡ target →
    at ≡ place_at 0 points key → is_among keys target ≡ is_some at
target_found points keys key target at are same is =
    sym (ap is_some is ∙ placed_among 0 points key ∙ ap₂ (λ ks k. is_among ks k) are same)

-- what holds at one relation after others
module _ (base : List (List ℕ)) (relations : List Relation) (points : List (List ℕ)) (i : ℕ) (r : Relation) (within : i < length relations)
    (is : r ≡ get_or relations i r) (up_to : AreKeysUpTo (with_targets (take i relations) base) points) where
  -- a target that is a base key changes nothing
  pub target_there : is_among base r.target.points ≡ true → AreKeysUpTo (with_targets (take (i + 1) relations) base) points
  target_there there =
      subst (λ keys. AreKeysUpTo keys points)
      (sym (ap (λ rs. with_targets rs base) (relations_more relations i r within is)
      ∙ targets_same (take i relations) r base there))
      up_to

  -- a target that is no base key is new here
  not_among : AreDistinct relations → is_among base r.target.points ≡ false →
      is_among (with_targets (take i relations) base) r.target.points ≡ false
  not_among distinct other =
      new_target base (take i relations) (drop (i + 1) relations) r (subst AreDistinct (relations_around relations i r within is) distinct) other

  -- any other comes after the keys so far
  pub target_more : (news : List (List ℕ)) → AreDistinct relations → is_among base r.target.points ≡ false → length points < 200000 →
      news ≡ points ++ r.target.points ∷ [] → AreKeysUpTo (with_targets (take (i + 1) relations) base) news
  target_more news distinct other room pushed =
      let keys : List (List ℕ) = with_targets (take i relations) base in
      subst (λ ks. AreKeysUpTo ks news)
      (sym (ap (λ rs. with_targets rs base) (relations_more relations i r within is)
      ∙ targets_after (take i relations) r base (not_among distinct other)))
      (record {
        are = pushed ∙ ap (λ ks. ks ++ r.target.points ∷ []) up_to.are;
        few = omega (arith, room, ap length pushed, length-append points (r.target.points ∷ []));
      })

  -- and if there is no room for it, no more are listed
  pub listed_some : AreDistinct relations → is_among base r.target.points ≡ false → 200000 ≤ length points →
      AreListed base relations points
  listed_some distinct other full =
      let missing : is_among points r.target.points ≡ false = ap (λ ks. is_among ks r.target.points) up_to.are ∙ not_among distinct other in
      record {
        listed = take i relations;
        rest = r ∷ drop (i + 1) relations;
        whole = relations_around relations i r within is;
        are = up_to.are;
        full = (full, missing);
        few = up_to.few;
      }

-- all are listed
pub listed_all : (base : List (List ℕ)) (relations : List Relation) (points : List (List ℕ)) (i : ℕ) → length relations ≤ i →
    AreKeysUpTo (with_targets (take i relations) base) points → AreListed base relations points
listed_all base relations points i over up_to =
    record {
      listed = take i relations;
      rest = [];
      whole = sym (take_all i relations over) ∙ sym (append-nil (take i relations));
      are = up_to.are;
      full = tt;
      few = up_to.few;
    }
