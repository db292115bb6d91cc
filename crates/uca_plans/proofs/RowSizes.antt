-- The rows of a plan have keys and elements, and no more of them than rows of a table may have.
use Rattle.std.proofs.Common.{◌≡◌, ◌≢◌, ℕ, ◌+◌, ◌≤◌, List, [], ◌∷◌, ◌++◌, length, map, Bool, true, false, cond, ltb, Option, Some}
use Rattle.std.proofs.Common.{None, unwrap_or, is_some, refl, sym, ap, subst, ◌∙◌, arith, length-append}
use Rattle.std.specs.List.{AllByRecursion, flat_map}
use Rattle.std.specs.Char.{IsScalar}
use Rattle.std.proofs.lemmas.Bool.{or_parts, ltb-false, false≢true}
use Rattle.std.proofs.lemmas.List.{length-map}
use Rattle.uca_weights.specs.declared.Level.{Level}
use Rattle.uca_weights.specs.Levels.{level_of}
use Rattle.uca_values.specs.declared.ImplicitRange.{ImplicitRange}
use Rattle.uca_values.specs.Content.{Entry, Properties, IsEntry, AreRows, Fits}
use Rattle.uca_check.specs.WellFormed.{elements_of}
use Rattle.uca_text.specs.Texts.{Text, NfdText, classed}
use Rattle.uca_relations.specs.declared.Relation.{Relation}
use Rattle.uca_relations.specs.Relations.{IsRuleText, HasRuleTexts}
use Rattle.uca_elements.specs.Rows.{same_key}
use Rattle.uca_elements.specs.Parts.{Part, Row, Implicit, IsPartOf}
use Rattle.uca_elements.specs.Reading.{Portion, portion, parts}
use Rattle.uca_elements.proofs.Parts.{each_part}
use Rattle.uca_elements.proofs.ReadingLemmas.{parts_portion}
use Rattle.uca_plans.specs.declared.drafts.DraftElement.{DraftElement}
use Rattle.uca_plans.specs.declared.drafts.DraftWeight.{DraftWeight}
use Rattle.uca_plans.specs.declared.drafts.DraftWeight.TheVariants.{New}
use Rattle.uca_plans.specs.Drafts.{DraftRow, as_draft, row_as_draft, with_row, has_key, draft_at, part_drafts, draft_elements, AnchorPart, anchor_part}
use Rattle.uca_plans.specs.Drafts.{accepted_part, reweighted}
use Rattle.uca_plans.specs.Plans.{Basis, Drafting, Drafted, drafted_at, placed_after, placed_if_accepted, draft_expansion, begun, LevelPlans, numbered}
use Rattle.uca_plans.specs.Plans.{numbered_row, Plan}
use Rattle.uca_plans.specs.Keys.{keys_in}
use Rattle.uca_plans.specs.Sizes.{IsSizedRow, AreSizedRows, PlansHaveSizedRows}
use Rattle.uca_plans.proofs.KeyPlaces.{has_draft, keys_with_row}
use Rattle.uca_plans.proofs.PlanKeys.{AreApart, apart_of_distinct, distinct_of_apart, apart_with_key, keys_of_drafts, keys_of_numbered}
use Rattle.uca_plans.proofs.PlanSteps.{IsStep, AreSteps, target_row, planned_is, level_plans}
use Rattle.uca_values.proofs.ImplicitPairs.{of_pair}
use Rattle.uca_plans.proofs.DraftReading.{letters_some}
use Rattle.uca_plans.proofs.DraftOrigins.{each_at}

-- ---- A text that is not empty has elements

module _ (ranges : List ImplicitRange) (properties : Properties) (rows : List DraftRow) (some_in : AllByRecursion (λ row. 1 ≤ length row.elements) rows) where
  -- a part of a text has some: a key has its row, and implicit elements are two
  some_part : (t : Text) (p : Part) → IsPartOf (has_key rows) t p → 1 ≤ length (part_drafts ranges properties rows p)
  some_part t (Row key) is = go (draft_at rows key) refl
    where
      go : (o : Option (List DraftElement)) → draft_at rows key ≡ o → 1 ≤ length (unwrap_or o [])
      go None none = absurd (false≢true (sym (ap is_some none) ∙ has_draft rows key ∙ is.0))
      go (Some es) found = each_at (λ es. 1 ≤ length es) rows some_in key es found
  some_part t (Implicit c) is = of_pair (λ es. 1 ≤ length (map (as_draft true) es)) ranges properties c (λ lead low _. omega arith)

  some_read : (t : Text) → t ≢ [] → 1 ≤ length (flat_map (part_drafts ranges properties rows) (parts (has_key rows) t))
  some_read [] some = absurd (some refl)
  some_read (c ∷ t) some =
      let first : Portion = portion (has_key rows) c t in
      let later : List DraftElement = flat_map (part_drafts ranges properties rows) (parts (has_key rows) first.rest) in
      let are = subst (AllByRecursion (IsPartOf (has_key rows) (c ∷ t))) (parts_portion (has_key rows) c t) (each_part (has_key rows) (c ∷ t)) in
      let enough = some_part (c ∷ t) first.part are.0 in
      subst (λ ps. 1 ≤ length (flat_map (part_drafts ranges properties rows) ps)) (sym (parts_portion (has_key rows) c t))
      (omega (arith, enough, length-append (part_drafts ranges properties rows first.part) later))

  -- where each row has some, a text of rules has some
  pub some_drafts : (text : NfdText) → IsRuleText text → 1 ≤ length (draft_elements ranges properties rows text)
  some_drafts text is_text =
      some_read (classed text) (letters_some text is_text.normal.accepted.same is_text.some)

-- ---- What a relation gives

-- at any level, if its anchor has elements it gives some
some_drafted : (level : Option Level) (before : Bool) (weight : DraftWeight) (anchor expansion : List DraftElement) (new : Drafted) → 1 ≤ length anchor →
    drafted_at level before weight anchor expansion ≡ Some new → 1 ≤ length new.elements
some_drafted None before weight anchor expansion new some gives =
    let given : Drafted = record { elements = anchor ++ expansion; insertions = [] } in
    let same : given ≡ new = cc in
    subst (λ (d : Drafted). 1 ≤ length d.elements) same (omega (arith, some, length-append anchor expansion))
some_drafted (Some level) before weight anchor expansion new some gives = go (accepted_part level (anchor_part level anchor)) gives
  where
    go : (part : Option AnchorPart) → placed_if_accepted level before weight part expansion ≡ Some new → 1 ≤ length new.elements
    go None gives = cc
    go (Some part) gives =
        let same : placed_after level before weight part expansion ≡ new = cc in
        subst (λ (d : Drafted). 1 ≤ length d.elements) same
        (omega (arith, length-append part.front (reweighted level weight part.last ∷ expansion)))

-- ---- Rows

-- what `IsSizedRow` says, of a draft row
pub record IsSizedDraft (row : DraftRow) : Type 0 where
  pub points : AllByRecursion IsScalar row.key
  pub some_points : 1 ≤ length row.key
  pub few_points : length row.key ≤ 16
  pub some_elements : 1 ≤ length row.elements
  pub few_elements : length row.elements ≤ 32

pub record AreSizedDrafts (rows : List DraftRow) : Type 0 where
  pub entries : AllByRecursion IsSizedDraft rows
  pub apart : AreApart (keys_in rows)
  pub few : length rows ≤ 200000

-- what is true of all rows and of one more is true of all with it
pub each_with_row : (P : DraftRow → Type 0) (new : DraftRow) (rows : List DraftRow) → P new → AllByRecursion P rows → AllByRecursion P (with_row new rows)
each_with_row P new [] here all = (here, tt)
each_with_row P new (row ∷ rows) here all = go (same_key row.key new.key) (each_with_row P new rows here all.1)
  where
    go : (b : Bool) → AllByRecursion P (with_row new rows) → AllByRecursion P (cond b (new ∷ rows) (row ∷ with_row new rows))
    go true later = (here, all.1)
    go false later = (all.0, later)

-- a list that is not empty
some_of : {A : Type 0} (xs : List A) → xs ≢ [] → 1 ≤ length xs
some_of [] some = absurd (some refl)
some_of (x ∷ xs) some = omega arith

some_elements : (rows : List DraftRow) → AllByRecursion IsSizedDraft rows → AllByRecursion (λ row. 1 ≤ length row.elements) rows
some_elements [] all = tt
some_elements (row ∷ rows) all = (all.0.some_elements, some_elements rows all.1)

module _ (basis : Basis) where
  -- a step keeps the sizes
  pub sized_step : (n : ℕ) (r : Relation) (here behind : Drafting) → HasRuleTexts r → IsStep basis n r here behind → AreSizedDrafts here.rows →
      AreSizedDrafts behind.rows
  sized_step n r here behind texts step sized =
      let new : DraftRow = target_row r step.new in
      let limits = or_parts (ltb 32 (length new.elements)) (ltb 200000 (length behind.rows)) step.within in
      let anchor_some = some_drafts basis.ranges basis.properties here.rows (some_elements here.rows sized.entries) r.anchor texts.anchors in
      let is_sized : IsSizedDraft new = record {
        points = texts.targets.normal.scalars;
        some_points = some_of r.target.points texts.targets.some;
        few_points = texts.targets.short;
        some_elements = some_drafted (level_of r.strength) r.before (New n) (draft_elements basis.ranges basis.properties here.rows r.anchor)
            (draft_expansion basis here r.expansion) step.new anchor_some step.is_drafted;
        few_elements = ltb-false 32 (length new.elements) limits.0;
      } in
      record {
        entries = subst (AllByRecursion IsSizedDraft) (sym step.rows) (each_with_row IsSizedDraft new here.rows is_sized sized.entries);
        apart = subst AreApart (sym (ap keys_in step.rows ∙ keys_with_row new here.rows)) (apart_with_key new.key (keys_in here.rows) sized.apart);
        few = ltb-false 200000 (length behind.rows) limits.1;
      }

  -- steps keep them
  pub sized_along : (n : ℕ) (relations : List Relation) (here behind : Drafting) → AllByRecursion HasRuleTexts relations →
      AreSteps basis n relations here behind → AreSizedDrafts here.rows → AreSizedDrafts behind.rows
  sized_along n [] here behind texts steps sized = subst (λ (d : Drafting). AreSizedDrafts d.rows) steps sized
  sized_along n (r ∷ relations) here behind texts steps sized =
      sized_along (n + 1) relations steps.0 behind texts.1 steps.2 (sized_step n r here steps.0 texts.0 steps.1 sized)

-- the rows of a table have them
pub sized_base : (rows : List Entry) → AreRows rows → AreSizedDrafts (map row_as_draft rows)
sized_base rows are =
    record {
      entries = go rows are.entries;
      apart = subst AreApart (sym (keys_of_drafts rows)) (apart_of_distinct rows are.distinct);
      few = omega (arith, are.few, length-map rows row_as_draft);
    }
  where
    one : (row : Entry) → IsEntry row → IsSizedDraft (row_as_draft row)
    one row is =
        record {
          points = is.points;
          some_points = is.some_points;
          few_points = is.few_points;
          some_elements = omega (arith, is.some_elements, length-map row.elements (as_draft false));
          few_elements = omega (arith, is.few_elements, length-map row.elements (as_draft false));
        }

    go : (rows : List Entry) → AllByRecursion IsEntry rows → AllByRecursion IsSizedDraft (map row_as_draft rows)
    go [] all = tt
    go (row ∷ rows) all = (one row all.0, go rows all.1)

-- and numbers keep them
pub sized_numbered : (plans : LevelPlans) (rows : List DraftRow) → AreSizedDrafts rows → AreSizedRows (map (numbered_row plans) rows)
sized_numbered plans rows sized =
    record {
      entries = go rows sized.entries;
      distinct = distinct_of_apart (map (numbered_row plans) rows) (subst AreApart (sym (keys_of_numbered plans rows)) sized.apart);
      few = omega (arith, sized.few, length-map rows (numbered_row plans));
    }
  where
    one : (row : DraftRow) → IsSizedDraft row → IsSizedRow (numbered_row plans row)
    one row is =
        record {
          points = is.points;
          some_points = is.some_points;
          few_points = is.few_points;
          some_elements = omega (arith, is.some_elements, length-map row.elements (numbered plans));
          few_elements = omega (arith, is.few_elements, length-map row.elements (numbered plans));
        }

    go : (rows : List DraftRow) → AllByRecursion IsSizedDraft rows → AllByRecursion IsSizedRow (map (numbered_row plans) rows)
    go [] all = tt
    go (row ∷ rows) all = (one row all.0, go rows all.1)

-- the rows of a plan have the sizes that rows of a table have
pub rows_in : PlansHaveSizedRows
rows_in basis relations plan base rules is_plan =
    let made = planned_is basis relations plan is_plan in
    let sized = sized_along basis 0 relations (begun basis) made.drafting rules.texts made.steps (sized_base basis.base base) in
    subst (λ (p : Plan). AreSizedRows p.rows) (sym made.is_plan)
    (sized_numbered (level_plans (elements_of basis.base) made.drafting.insertions) made.drafting.rows sized)

-- with weights of 16 bits they are the rows of a table
pub sized_rows_fit : (rows : List Entry) → AreSizedRows rows → AllByRecursion (λ row. AllByRecursion Fits row.elements) rows → AreRows rows
sized_rows_fit rows sized fits = record { entries = go rows sized.entries fits; distinct = sized.distinct; few = sized.few }
  where
    go : (rows : List Entry) → AllByRecursion IsSizedRow rows → AllByRecursion (λ row. AllByRecursion Fits row.elements) rows → AllByRecursion IsEntry rows
    go [] all fits = tt
    go (row ∷ rows) all fits = (
      record {
        points = all.0.points;
        some_points = all.0.some_points;
        few_points = all.0.few_points;
        fits = fits.0;
        some_elements = all.0.some_elements;
        few_elements = all.0.few_elements;
      },
      go rows all.1 fits.1,
    )
