-- Each relation can be read over the positions of all keys.
use Rattle.std.proofs.Common.{◌≡◌, ◌⊎◌, ℕ, ◌+◌, ◌<◌, ◌≤◌, List, [], ◌∷◌, ◌++◌, length, take, drop, get_or, Bool, true, false, cond, is_some, refl, sym, ap, ap₂, subst, ◌∙◌}
use Rattle.std.proofs.Common.{inl, inr, arith, append-nil, append_assoc, length-append}
use Rattle.std.proofs.lemmas.Bool.{false≢true}
use Rattle.std.proofs.lemmas.List.{length-map}
use Rattle.uca_values.specs.Content.{keys_of}
use Rattle.uca_relations.specs.declared.Relation.{Relation}
use Rattle.uca_relations.specs.Relations.{AreRules}
use Rattle.uca_elements.specs.Positions.{Positions, is_placed, place_at}
use Rattle.uca_plans.specs.Drafts.{DraftRow}
use Rattle.uca_plans.specs.Plans.{Basis, Drafting}
use Rattle.uca_plans.specs.Keys.{keys_in, is_among, with_key, with_targets}
use Rattle.uca_plans.proofs.KeyPlaces.{with_key_is}
use Rattle.uca_plans.proofs.SameReading.{same_reading, targets_append, target_among}
use Rattle.uca_tailor.specs.inside.KeyRows.{ArePositions, IsFull}
use Rattle.uca_tailor.specs.inside.Ready.{IsReady}
use Rattle.uca_tailor.proofs.DraftLemmas.MatchReadings.{placed_among}
use Rattle.uca_tailor.proofs.DraftLemmas.ListedKeys.{relations_around}
use Rattle.uca_tailor.proofs.DraftLemmas.DraftingSteps.{IsDrafted}

-- ---- Keys and targets

-- one more key comes after the others, if it is new
key_extends : (new : List ℕ) (keys : List (List ℕ)) → (more : List (List ℕ)) × (with_key new keys ≡ keys ++ more)
key_extends new keys = go (is_among keys new) (with_key_is new keys)
  where
    go : (b : Bool) → with_key new keys ≡ cond b keys (keys ++ new ∷ []) → (more : List (List ℕ)) × (with_key new keys ≡ keys ++ more)
    go true is = ([], is ∙ sym (append-nil keys))
    go false is = (new ∷ [], is)

-- and so do targets
targets_extend : (relations : List Relation) (keys : List (List ℕ)) → (more : List (List ℕ)) × (with_targets relations keys ≡ keys ++ more)
targets_extend [] keys = ([], sym (append-nil keys))
targets_extend (r ∷ relations) keys =
    let first = key_extends r.target.points keys in
    let later = targets_extend relations (with_key r.target.points keys) in
    (first.0 ++ later.0, later.1 ∙ ap (λ ks. ks ++ later.0) first.1 ∙ append_assoc keys first.0 later.0)

-- a new key is one more
key_counts : (new : List ℕ) (keys : List (List ℕ)) → is_among keys new ≡ false → length (with_key new keys) ≡ length keys + 1
key_counts new keys other =
    ap length (with_key_is new keys ∙ ap (λ b. cond b keys (keys ++ new ∷ [])) other) ∙ length-append keys (new ∷ [])

-- ---- The position of a relation

-- the keys that are listed first end at the relation, or after it
abbrev ReachesFurther : List Relation → Relation → List Relation → List Relation → List Relation → Type 0
ReachesFurther before r after listed rest = (later : List Relation) × (listed ≡ before ++ later) × (r ∷ after ≡ later ++ rest)

-- or before it
abbrev EndsBefore : List Relation → List Relation → List Relation → Type 0
EndsBefore before listed rest = (s : Relation) × (more : List Relation) × (after : List Relation) × (before ≡ listed ++ s ∷ more) × (rest ≡ s ∷ after)

-- it is one of the two
reaches_or_ends : (before : List Relation) (r : Relation) (after listed rest : List Relation) → before ++ r ∷ after ≡ listed ++ rest →
    ReachesFurther before r after listed rest ⊎ EndsBefore before listed rest
reaches_or_ends [] r after listed rest whole = inl (listed, refl, whole)
reaches_or_ends (b ∷ before) r after [] rest whole = inr (b, before, before ++ r ∷ after, refl, sym whole)
reaches_or_ends (b ∷ before) r after (l ∷ listed) rest whole = go (reaches_or_ends before r after listed rest tails)
  where
    heads : b ≡ l
    heads = cc

    tails : before ++ r ∷ after ≡ listed ++ rest
    tails = cc

    go : ReachesFurther before r after listed rest ⊎ EndsBefore before listed rest → ReachesFurther (b ∷ before) r after (l ∷ listed) rest ⊎ EndsBefore (b ∷ before) (l ∷ listed) rest
    go (inl further) = inl (further.0, ap₂ (λ x xs. x ∷ xs) (sym heads) further.1, further.2)
    go (inr short) = inr (short.0, short.1, short.2, ap₂ (λ x xs. x ∷ xs) heads short.3, short.4)

module _ (basis : Basis) (positions : Positions) (before after : List Relation) (r : Relation) (so_far : Drafting) (rules : AreRules (before ++ r ∷ after))
    (all : ArePositions (keys_of basis.base) (before ++ r ∷ after) positions) (own : keys_in so_far.rows ≡ with_targets before (keys_of basis.base))
    (few : length so_far.rows ≤ 200000) where
  -- there are as many rows as keys
  counted : length so_far.rows ≡ length (with_targets before (keys_of basis.base))
  counted = sym (length-map so_far.rows (λ (x : DraftRow). x.key)) ∙ ap length own

  -- no relation is read that comes after the first without a position
  not_before : EndsBefore before all.all.listed all.all.rest → ⊥
  not_before short =
      let full : IsFull all.keys (short.0 ∷ short.2) = subst (IsFull all.keys) short.4 all.all.full in
      let there : with_targets before (keys_of basis.base) ≡ with_targets short.1 (with_key short.0.target.points all.keys) =
      ap (λ rs. with_targets rs (keys_of basis.base)) short.3 ∙ targets_append all.all.listed (short.0 ∷ short.1) (keys_of basis.base)
      ∙ ap (λ ks. with_targets short.1 (with_key short.0.target.points ks)) (sym all.all.are) in
      let more = targets_extend short.1 (with_key short.0.target.points all.keys) in
      omega (
        arith,
        few,
        counted,
        ap length there,
        ap length more.1,
        length-append (with_key short.0.target.points all.keys) more.0,
        key_counts short.0.target.points all.keys full.1,
        full.0,
      )

  module _ (further : ReachesFurther before r after all.all.listed all.all.rest) where
    keys_are : all.keys ≡ with_targets further.0 (keys_in so_far.rows)
    keys_are =
        all.all.are ∙ ap (λ rs. with_targets rs (keys_of basis.base)) further.1 ∙ targets_append before further.0 (keys_of basis.base)
        ∙ ap (with_targets further.0) (sym own)

    -- the target has a position, or there is no room
    placed_or_full : (later : List Relation) → r ∷ after ≡ later ++ all.all.rest → all.keys ≡ with_targets later (keys_in so_far.rows) →
        is_among all.keys r.target.points ≡ false → 200000 ≤ length so_far.rows
    placed_or_full [] parts keys other =
        let full : IsFull all.keys (r ∷ after) = subst (IsFull all.keys) (sym parts) all.all.full in
        omega (arith, full.0, ap length keys, length-map so_far.rows (λ (x : DraftRow). x.key))
    placed_or_full (s ∷ later) parts keys other =
        let first : s ≡ r = cc in
        absurd (false≢true (sym other ∙ ap (λ ks. is_among ks r.target.points) keys
        ∙ target_among (s ∷ later) (keys_in so_far.rows) r.target.points (inl (ap (λ (x : Relation). x.target.points) first))))

    reads : IsReady basis positions so_far.rows r
    reads =
        let more = targets_extend further.0 (keys_in so_far.rows) in
        let keys : all.keys ≡ keys_in so_far.rows ++ more.0 = keys_are ∙ more.1 in
        record {
          more = more.0;
          each = λ key. all.each key ∙ ap (λ ks. place_at 0 ks key) keys;
          few = subst (λ ks. length ks ≤ 200000) keys all.all.few;
          full = λ other. placed_or_full further.0 further.2 keys_are (ap (λ ks. is_among ks r.target.points) keys ∙ other);
          alike = λ text is_text.
              same_reading basis.ranges basis.properties (keys_of basis.base) before after further.0 all.all.rest r so_far.rows (is_placed positions) text rules further.2 own
              (λ key. ap is_some (all.each key) ∙ placed_among 0 all.keys key
              ∙ ap (λ ks. is_among ks key) (all.all.are ∙ ap (λ rs. with_targets rs (keys_of basis.base)) further.1)) is_text;
        }

  -- so the relation can be read
  pub can_read : IsReady basis positions so_far.rows r
  can_read = go (reaches_or_ends before r after all.all.listed all.all.rest all.all.whole)
    where
      go : ReachesFurther before r after all.all.listed all.all.rest ⊎ EndsBefore before all.all.listed all.all.rest → IsReady basis positions so_far.rows r
      go (inl further) = reads further
      go (inr short) = absurd (not_before short)

-- each relation of rules can be read over the positions when those before it have been drafted
pub ready : (basis : Basis) (positions : Positions) (relations : List Relation) (n : ℕ) (r : Relation) (so_far : Drafting) → AreRules relations →
    ArePositions (keys_of basis.base) relations positions → n < length relations → r ≡ get_or relations n r → IsDrafted basis relations n so_far →
    IsReady basis positions so_far.rows r
ready basis positions relations n r so_far rules all within is here =
    let around : relations ≡ take n relations ++ r ∷ drop (n + 1) relations = relations_around relations n r within is in
    can_read basis positions (take n relations) (drop (n + 1) relations) r so_far (subst AreRules around rules)
    (subst (λ rs. ArePositions (keys_of basis.base) rs positions) around all) here.own here.few
