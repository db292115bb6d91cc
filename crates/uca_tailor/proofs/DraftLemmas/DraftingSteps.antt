-- What each relation in turn adds to the drafts, or why it is rejected.
use Rattle.std.proofs.Common.{◌≡◌, ℕ, ◌+◌, ◌<◌, ◌≤◌, List, [], ◌∷◌, ◌++◌, length, take, drop, map, get_or, set, true, false, ltb, Option, Some}
use Rattle.std.proofs.Common.{None, Ok, Err, ◌⊎◌, inl, inr, refl, sym, ap, ap₂, ◌∙◌, ⊎_elim, arith, length-append, length-set}
use Rattle.std.proofs.lemmas.Bool.{or_left, or_right, or_from, or_parts, lt-ltb, le-ltb, ltb-false, cond-true, cond-false, cases_lt}
use Rattle.std.proofs.lemmas.List.{length-map, drop_more, drop_all}
use Rattle.uca_weights.specs.Levels.{level_of}
use Rattle.uca_values.specs.Content.{keys_of}
use Rattle.uca_check.specs.WellFormed.{elements_of}
use Rattle.uca_relations.specs.declared.Relation.{Relation}
use Rattle.uca_text.specs.Texts.{NfdText}
use Rattle.uca_elements.specs.Positions.{Positions, place_at}
use Rattle.uca_plans.specs.declared.drafts.DraftWeight.{DraftWeight}
use Rattle.uca_plans.specs.declared.drafts.DraftWeight.TheVariants.{New}
use Rattle.uca_plans.specs.declared.faults.TailorKind.{TailorKind}
use Rattle.uca_plans.specs.declared.faults.TailorKind.TheVariants as kinds
use Rattle.uca_plans.specs.declared.faults.TailorFault.{TailorFault}
use Rattle.uca_plans.specs.Tailors.{out_of_memory}
use Rattle.uca_plans.specs.declared.drafts.Insertion.{Insertion}
use Rattle.uca_plans.specs.Drafts.{DraftRow, row_as_draft, with_row, has_key, draft_elements}
use Rattle.uca_plans.specs.Plans.{Basis, Drafting, Drafted, begun, draft_expansion, drafted_at, drafted, needs_prefix, passes_limit}
use Rattle.uca_plans.specs.Plans.{holds_implicit_variable, one_drafted}
use Rattle.uca_plans.specs.Plans.{with_relation, and_then, with_relations}
use Rattle.uca_plans.specs.Keys.{keys_in, is_among, with_key, with_targets}
use Rattle.uca_plans.proofs.KeyPlaces.{has_key_is, keys_with_row}
use Rattle.uca_plans.proofs.PlaceRows.{row_at, row_after}
use Rattle.uca_plans.proofs.PlanSteps.{target_row, step_of}
use Rattle.uca_tailor.specs.inside.KeyRows.{IsRowOf}
use Rattle.uca_tailor.specs.inside.Ready.{IsReady, IsRejected}
use Rattle.uca_plans.proofs.PlanKeys.{keys_of_drafts}
use Rattle.uca_tailor.proofs.DraftLemmas.ListedKeys.{targets_more, relations_more}
use Rattle.uca_tailor.proofs.DraftLemmas.KeyLookups.{not_in_front, row_in_front, front_is}

-- ---- One relation

-- the elements of an expansion depend on the rows alone
expansion_by_rows : (basis : Basis) (so_far : Drafting) (expansion : Option NfdText) →
    draft_expansion basis (record { rows = so_far.rows; insertions = [] }) expansion ≡ draft_expansion basis so_far expansion
expansion_by_rows basis so_far None = refl
expansion_by_rows basis so_far (Some text) = refl

-- what it gives its target depends on the rows alone
pub drafted_by_rows : (basis : Basis) (so_far : Drafting) (new : DraftWeight) (r : Relation) →
    drafted basis (record { rows = so_far.rows; insertions = [] }) new r ≡ drafted basis so_far new r
drafted_by_rows basis so_far new r =
    ap (drafted_at (level_of r.strength) r.before new (draft_elements basis.ranges basis.properties so_far.rows r.anchor))
    (expansion_by_rows basis so_far r.expansion)

module _ (basis : Basis) (so_far : Drafting) (n : ℕ) (r : Relation) where
  -- a relation whose anchor is rejected is rejected
  pub refused_anchor : drafted basis so_far (New n) r ≡ None → with_relation basis so_far n r ≡ Err kinds.Anchor
  refused_anchor none = ap (one_drafted basis so_far r.target.points) none

  module _ (new : Drafted) (is : drafted basis so_far (New n) r ≡ Some new) where
    -- so is one whose target needs a prefix
    pub refused_prefix : needs_prefix basis.properties.class so_far.rows r.target.points ≡ true → with_relation basis so_far n r ≡ Err kinds.NeedsPrefix
    refused_prefix needs =
        ap (one_drafted basis so_far r.target.points) is
        ∙ cond-true (needs_prefix basis.properties.class so_far.rows r.target.points) _ _ needs

    -- and one that passes a limit
    pub refused_limit : needs_prefix basis.properties.class so_far.rows r.target.points ≡ false →
        passes_limit (target_row r new) (with_row (target_row r new) so_far.rows) ≡ true → with_relation basis so_far n r ≡ Err kinds.Limit
    refused_limit has passes =
        ap (one_drafted basis so_far r.target.points) is ∙ cond-false (needs_prefix basis.properties.class so_far.rows r.target.points) _ _ has
        ∙ cond-true (passes_limit (target_row r new) (with_row (target_row r new) so_far.rows)) _ _ passes

    -- and one whose elements include an implicit one among the variable ones
    pub refused_variable : needs_prefix basis.properties.class so_far.rows r.target.points ≡ false →
        passes_limit (target_row r new) (with_row (target_row r new) so_far.rows) ≡ false →
        holds_implicit_variable (elements_of basis.base) (target_row r new) ≡ true → with_relation basis so_far n r ≡ Err kinds.ImplicitVariable
    refused_variable has within holds =
        ap (one_drafted basis so_far r.target.points) is ∙ cond-false (needs_prefix basis.properties.class so_far.rows r.target.points) _ _ has
        ∙ cond-false (passes_limit (target_row r new) (with_row (target_row r new) so_far.rows)) _ _ within
        ∙ cond-true (holds_implicit_variable (elements_of basis.base) (target_row r new)) _ _ holds

    -- any other is added
    pub accepted : (after : Drafting) → needs_prefix basis.properties.class so_far.rows r.target.points ≡ false →
        passes_limit (target_row r new) (with_row (target_row r new) so_far.rows) ≡ false →
        holds_implicit_variable (elements_of basis.base) (target_row r new) ≡ false → after.rows ≡ with_row (target_row r new) so_far.rows →
        after.insertions ≡ so_far.insertions ++ new.insertions → with_relation basis so_far n r ≡ Ok after
    accepted after has within outside rows insertions =
        ap (one_drafted basis so_far r.target.points) is ∙ cond-false (needs_prefix basis.properties.class so_far.rows r.target.points) _ _ has
        ∙ cond-false (passes_limit (target_row r new) (with_row (target_row r new) so_far.rows)) _ _ within
        ∙ cond-false (holds_implicit_variable (elements_of basis.base) (target_row r new)) _ _ outside
        ∙ ap₂ (λ (rs : List DraftRow) (is : List Insertion). Ok (record { rows = rs; insertions = is })) (sym rows) (sym insertions)

-- ---- Room for a row

module _ (basis : Basis) (positions : Positions) (rows : List DraftRow) (r : Relation) (ready : IsReady basis positions rows r) (row : DraftRow)
    (its : row.key ≡ r.target.points) where
  -- there are as many keys as rows
  count : length (keys_in rows) ≡ length rows
  count = length-map rows (λ (x : DraftRow). x.key)

  -- if the target has no position there is no room
  pub no_room : is_among (keys_in rows ++ ready.more) r.target.points ≡ false → passes_limit row (with_row row rows) ≡ true
  no_room other =
      let new : has_key rows row.key ≡ false =
      has_key_is rows row.key ∙ ap (is_among (keys_in rows)) its ∙ not_in_front (keys_in rows) ready.more r.target.points other in
      let full : 200000 ≤ length rows = ready.full other in
      let one_more : length (with_row row rows) ≡ length rows + 1 = ap length (row_after row rows new) ∙ length-append rows (row ∷ []) in
      or_right (ltb 32 (length row.elements)) (ltb 200000 (length (with_row row rows)))
      (lt-ltb 200000 (length (with_row row rows)) (omega (arith, full, one_more)))

  -- nor where there are too many elements
  pub too_many : 32 < length row.elements → passes_limit row (with_row row rows) ≡ true
  too_many many = or_left (ltb 32 (length row.elements)) (ltb 200000 (length (with_row row rows))) (lt-ltb 32 (length row.elements) many)

  module _ (at : ℕ) (stands : IsRowOf (keys_in rows ++ ready.more) r.target.points at) where
    -- a position among the rows is that of the row with the key
    pub replaced : at < length rows → with_row row rows ≡ set rows at row
    replaced there =
        let old : is_among (keys_in rows) row.key ≡ true =
        ap (is_among (keys_in rows)) its ∙ sym (front_is (keys_in rows) ready.more r.target.points at stands)
        ∙ lt-ltb at (length (keys_in rows)) (omega (arith, there, count)) in
        (row_at row rows at (has_key_is rows row.key ∙ old)
        (sym (row_in_front 0 (keys_in rows) ready.more row.key old) ∙ ap (λ k. place_at 0 (keys_in rows ++ ready.more) k) its ∙ stands.stands)).1

    -- after them there is no such row
    pub after : length rows ≤ at → with_row row rows ≡ rows ++ row ∷ []
    after past =
        row_after row rows
        (has_key_is rows row.key ∙ ap (is_among (keys_in rows)) its ∙ sym (front_is (keys_in rows) ready.more r.target.points at stands)
        ∙ le-ltb at (length (keys_in rows)) (omega (arith, past, count)))

    -- where a row is replaced there is room
    pub room_replaced : at < length rows → length row.elements ≤ 32 → passes_limit row (with_row row rows) ≡ false
    room_replaced there few =
        let same : length (with_row row rows) ≡ length rows = ap length (replaced there) ∙ length-set rows at row in
        let all : length (keys_in rows ++ ready.more) ≡ length (keys_in rows) + length ready.more = length-append (keys_in rows) ready.more in
        or_from (ltb 32 (length row.elements)) (ltb 200000 (length (with_row row rows))) (le-ltb 32 (length row.elements) few)
        (le-ltb 200000 (length (with_row row rows)) (omega (arith, same, all, count, ready.few)))

    -- and so there is after them
    pub room_after : length rows ≤ at → length row.elements ≤ 32 → passes_limit row (with_row row rows) ≡ false
    room_after past few =
        let one_more : length (with_row row rows) ≡ length rows + 1 = ap length (after past) ∙ length-append rows (row ∷ []) in
        or_from (ltb 32 (length row.elements)) (ltb 200000 (length (with_row row rows))) (le-ltb 32 (length row.elements) few)
        (le-ltb 200000 (length (with_row row rows)) (omega (arith, one_more, past, stands.within, ready.few)))

-- a relation whose target has no position is rejected
pub refused_room : (basis : Basis) (positions : Positions) (so_far : Drafting) (n : ℕ) (r : Relation) (new : Drafted) (ready : IsReady basis positions so_far.rows r) →
    drafted basis so_far (New n) r ≡ Some new → needs_prefix basis.properties.class so_far.rows r.target.points ≡ false →
    is_among (keys_in so_far.rows ++ ready.more) r.target.points ≡ false → with_relation basis so_far n r ≡ Err kinds.Limit
refused_room basis positions so_far n r new ready is has other =
    refused_limit basis so_far n r new is has (no_room basis positions so_far.rows r ready (target_row r new) refl other)

-- one whose target has a position, and few elements, goes over no limit
pub in_limits : (basis : Basis) (positions : Positions) (so_far : Drafting) (r : Relation) (new : Drafted) (ready : IsReady basis positions so_far.rows r) →
    (at : ℕ) → IsRowOf (keys_in so_far.rows ++ ready.more) r.target.points at → length new.elements ≤ 32 →
    passes_limit (target_row r new) (with_row (target_row r new) so_far.rows) ≡ false
in_limits basis positions so_far r new ready at stands few =
    ⊎_elim
    (λ there. room_replaced basis positions so_far.rows r ready (target_row r new) refl at stands there few)
    (λ past. room_after basis positions so_far.rows r ready (target_row r new) refl at stands past few)
    (cases_lt at (length so_far.rows))

-- so its row is put in its position, or after the others, if it has no implicit element among the variable ones
pub row_put : (basis : Basis) (positions : Positions) (so_far : Drafting) (n : ℕ) (r : Relation) (new : Drafted) (ready : IsReady basis positions so_far.rows r) →
    drafted basis so_far (New n) r ≡ Some new → needs_prefix basis.properties.class so_far.rows r.target.points ≡ false →
    (at : ℕ) → IsRowOf (keys_in so_far.rows ++ ready.more) r.target.points at → length new.elements ≤ 32 →
    holds_implicit_variable (elements_of basis.base) (target_row r new) ≡ false → (next : Drafting) →
    (at < length so_far.rows → next.rows ≡ set so_far.rows at (target_row r new)) →
    (length so_far.rows ≤ at → next.rows ≡ so_far.rows ++ target_row r new ∷ []) → next.insertions ≡ so_far.insertions ++ new.insertions →
    with_relation basis so_far n r ≡ Ok next
row_put basis positions so_far n r new ready is has at stands few outside next over last insertions =
    accepted basis so_far n r new is next has (in_limits basis positions so_far r new ready at stands few) outside
    (⊎_elim
    (λ there. over there ∙ sym (replaced basis positions so_far.rows r ready (target_row r new) refl at stands there))
    (λ past. last past ∙ sym (after basis positions so_far.rows r ready (target_row r new) refl at stands past))
    (cases_lt at (length so_far.rows)))
    insertions

-- ---- All relations

-- the first relations have been drafted
pub record IsDrafted (basis : Basis) (relations : List Relation) (n : ℕ) (so_far : Drafting) : Type 0 where
  pub same : with_relations basis 0 relations (begun basis) ≡ with_relations basis n (drop n relations) so_far
  pub own : keys_in so_far.rows ≡ with_targets (take n relations) (keys_of basis.base)
  pub few : length so_far.rows ≤ 200000

-- those that are left are one relation, and those after it
rest_is : (relations : List Relation) (n : ℕ) (r : Relation) → n < length relations → r ≡ get_or relations n r → drop n relations ≡ r ∷ drop (n + 1) relations
rest_is relations n r within is = drop_more relations n r within ∙ ap (λ s. s ∷ drop (n + 1) relations) (sym is)

-- and one more
pub one_more : (basis : Basis) (relations : List Relation) (n : ℕ) (r : Relation) (so_far next : Drafting) → n < length relations → r ≡ get_or relations n r →
    IsDrafted basis relations n so_far → with_relation basis so_far n r ≡ Ok next → IsDrafted basis relations (n + 1) next
one_more basis relations n r so_far next within is here added =
    let step = step_of basis n r so_far next added in
    record {
      same = here.same ∙ ap (λ rs. with_relations basis n rs so_far) (rest_is relations n r within is)
          ∙ ap (λ o. and_then basis n o (λ d. with_relations basis (n + 1) (drop (n + 1) relations) d)) added;
      own = ap keys_in step.rows ∙ keys_with_row (target_row r step.new) so_far.rows ∙ ap (with_key r.target.points) here.own
          ∙ sym (targets_more (take n relations) r (keys_of basis.base))
          ∙ sym (ap (λ rs. with_targets rs (keys_of basis.base)) (relations_more relations n r within is));
      few = ltb-false 200000 (length next.rows) (or_parts (ltb 32 (length step.new.elements)) (ltb 200000 (length next.rows)) step.within).1;
    }

-- the first relation that is rejected
pub first_refused : (basis : Basis) (relations : List Relation) (n : ℕ) (r : Relation) (so_far : Drafting) (kind : TailorKind) → n < length relations →
    r ≡ get_or relations n r → IsDrafted basis relations n so_far → with_relation basis so_far n r ≡ Err kind →
    with_relations basis 0 relations (begun basis) ≡ Err (record { kind = kind; relation = n + 1 })
first_refused basis relations n r so_far kind within is here refused =
    here.same ∙ ap (λ rs. with_relations basis n rs so_far) (rest_is relations n r within is)
    ∙ ap (λ o. and_then basis n o (λ d. with_relations basis (n + 1) (drop (n + 1) relations) d)) refused

-- where it is rejected, or an allocation failed, so it is with all relations
pub rejected_first : (basis : Basis) (relations all : List Relation) → relations ≡ all → (n : ℕ) (r : Relation) (so_far : Drafting) (fault : TailorFault) →
    n < length relations → r ≡ get_or relations n r → IsDrafted basis relations n so_far → IsRejected basis so_far n r fault →
    (with_relations basis 0 all (begun basis) ≡ Err fault) ⊎ (fault ≡ out_of_memory)
rejected_first basis relations all same n r so_far fault within is here (inl cause) =
    inl (sym (ap (λ rs. with_relations basis 0 rs (begun basis)) same)
    ∙ first_refused basis relations n r so_far fault.kind within is here cause.0
    ∙ ap (λ relation. Err (record { kind = fault.kind; relation = relation })) (sym cause.1))
rejected_first basis relations all same n r so_far fault within is here (inr memory) = inr memory

-- where no relation is left all have been drafted
pub all_drafted : (basis : Basis) (relations : List Relation) (n : ℕ) (so_far : Drafting) → length relations ≤ n → IsDrafted basis relations n so_far →
    with_relations basis 0 relations (begun basis) ≡ Ok so_far
all_drafted basis relations n so_far over here = here.same ∙ ap (λ rs. with_relations basis n rs so_far) (drop_all n relations over)

-- none has been drafted at first
pub none_drafted : (basis : Basis) (relations : List Relation) (so_far : Drafting) → so_far.rows ≡ map row_as_draft basis.base → so_far.insertions ≡ [] →
    length so_far.rows ≤ 200000 → IsDrafted basis relations 0 so_far
none_drafted basis relations so_far rows insertions few =
    record {
      same =
          ap₂ (λ (rs : List DraftRow) (is : List Insertion). with_relations basis 0 relations (record { rows = rs; insertions = is }))
          (sym rows) (sym insertions);
      own = ap keys_in rows ∙ keys_of_drafts basis.base;
      few = few;
    }
