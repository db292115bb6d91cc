-- Plans meet the conditions of an audit on headers and rows: 1 and 3 to 7.
use Rattle.std.proofs.Common.{◌≡◌, ◌⊎◌, inl, inr, ℕ, Bool, true, false, cond, List, [], ◌∷◌, map, Some, is_some, option_map, refl, sym, ap, ◌∙◌, subst}
use Rattle.std.specs.List.{AllByRecursion}
use Rattle.std.proofs.lemmas.Bool.{or_left, or_right}
use Rattle.uca_weights.specs.declared.Element.{Element}
use Rattle.uca_values.specs.Content.{Entry, TableContent, Properties, keys_of, AreDistinct}
use Rattle.uca_check.specs.WellFormed.{elements_of}
use Rattle.uca_weights.proofs.Lists.{each_weaker, each_parts}
use Rattle.uca_elements.specs.Rows.{IsKey, same_key, rows_of}
use Rattle.uca_elements.proofs.RowsByKey.{same_key-itself, found_of_row, key_iff}
use Rattle.uca_relations.specs.declared.Relation.{Relation}
use Rattle.uca_relations.specs.Relations.{IsTarget}
use Rattle.uca_tailorings.specs.Images.{Maps, AreImages, IsImage}
use Rattle.uca_tailorings.specs.Tailorings.{IsCovered, IsCoveredRow, IsUnchangedRow, IsPresentRow, IsPresentTarget, IsExpectedRow}
use Rattle.uca_tailorings.specs.declared.conditions.Condition.TheVariants.{BaseIllFormed, Header, Uncovered, RowChanged, RowMissing, RowExtra}
use Rattle.uca_tailorings.proofs.Parts.{each_of_both}
use Rattle.uca_plans.specs.Drafts.{as_draft, row_as_draft}
use Rattle.uca_plans.specs.Drafts.{draft_at}
use Rattle.uca_plans.specs.Keys.{is_among, with_targets}
use Rattle.uca_plans.specs.Plans.{Plan, LevelPlans, numbered, begun}
use Rattle.uca_plans.specs.Tailors.{basis_of}
use Rattle.uca_plans.proofs.ListMembers.{each_of}
use Rattle.uca_plans.proofs.SameReading.{among_kept, target_among, target_of_among}
use Rattle.uca_plans.proofs.PlanKeys.{contained_among, keys_of_numbered, keys_so_far}
use Rattle.uca_plans.proofs.DraftOrigins.{each_if_contained}
use Rattle.uca_acceptance.specs.Accepted.{PlansMeet, tailoring_by}
use Rattle.uca_acceptance.proofs.PlanCase.{IsCase, case_of, plans_in}
use Rattle.uca_acceptance.proofs.LevelImages.{maps_in, base_image}
use Rattle.uca_acceptance.proofs.TailoredReading.{tailored_row}
use Rattle.uca_acceptance.proofs.RelationSteps.{row_kept}

-- ---- Rows and their keys

-- the key of each row is among the keys
each_key : (rows : List Entry) → AllByRecursion (λ row. is_among (keys_of rows) row.key ≡ true) rows
each_key [] = tt
each_key (row ∷ rows) = (
  or_left (same_key row.key row.key) (is_among (keys_of rows) row.key) (same_key-itself row.key),
  each_weaker (λ r. is_among (keys_of rows) r.key ≡ true) (λ r. is_among (keys_of (row ∷ rows)) r.key ≡ true)
      (λ r there. or_right (same_key row.key r.key) (is_among (keys_of rows) r.key) there) rows (each_key rows),
)

-- the target of each relation is a target
each_target : (relations : List Relation) → AllByRecursion (λ r. IsTarget relations r.target.points) relations
each_target [] = tt
each_target (r ∷ relations) = (
  inl refl,
  each_weaker (λ s. IsTarget relations s.target.points) (λ s. IsTarget (r ∷ relations) s.target.points)
      (λ s there. inr there) relations (each_target relations),
)

-- where keys are distinct, each row is found at its key
each_found : (rows : List Entry) → AreDistinct rows → AllByRecursion (λ row. rows_of rows row.key ≡ Some row.elements) rows
each_found rows distinct =
    each_if_contained (λ (row : Entry). rows_of rows row.key ≡ Some row.elements) rows (λ row there. found_of_row rows distinct row there)

-- what is true of all elements is true of those of each row
each_in_rows : (P : Element → Type 0) (rows : List Entry) → AllByRecursion P (elements_of rows) →
    AllByRecursion (λ row. AllByRecursion P row.elements) rows
each_in_rows P [] all = tt
each_in_rows P (row ∷ rows) all = let parts = each_parts P row.elements (elements_of rows) all in (parts.0, each_in_rows P rows parts.1)

-- a base row as a draft has the elements of the row
draft_of_row : (rows : List Entry) (key : List ℕ) → draft_at (map row_as_draft rows) key ≡ option_map (λ es. map (as_draft false) es) (rows_of rows key)
draft_of_row [] key = refl
draft_of_row (row ∷ rows) key = go (same_key row.key key) (draft_of_row rows key)
  where
    -- by whether the first row has the key
    go : (b : Bool) → draft_at (map row_as_draft rows) key ≡ option_map (λ es. map (as_draft false) es) (rows_of rows key) →
        cond b (Some (map (as_draft false) row.elements)) (draft_at (map row_as_draft rows) key)
        ≡ option_map (λ es. map (as_draft false) es) (cond b (Some row.elements) (rows_of rows key))
    go true later = refl
    go false later = later

-- ---- Elements and their images

-- the images of elements are the numbered drafts of each
images_of_each : (maps : Maps) (plans : LevelPlans) (es : List Element) → AllByRecursion (λ e. IsImage maps e (numbered plans (as_draft false e))) es →
    AreImages maps es (map (numbered plans) (map (as_draft false) es))
images_of_each maps plans [] all = tt
images_of_each maps plans (e ∷ es) all = (all.0, images_of_each maps plans es all.1)

-- an element with an image is covered
covered : (maps : Maps) (e f : Element) → IsImage maps e f → IsCovered maps e
covered maps e f image = record { primary = ap is_some image.primary; secondary = ap is_some image.secondary; tertiary = ap is_some image.tertiary }

-- ---- A plan

module _ (base : TableContent) (properties : Properties) (relations : List Relation) (plan : Plan) (case : IsCase base properties relations plan) where
  -- the keys of its rows are those of the base and the targets
  plan_keys : keys_of plan.rows ≡ with_targets relations (keys_of base.rows)
  plan_keys =
      let plans = plans_in base properties relations plan case in
      ap (λ p. keys_of p.rows) case.made.is_plan
      ∙ keys_of_numbered plans case.made.drafting.rows
      ∙ keys_so_far (basis_of base properties) relations case.made.drafting case.made.steps

  -- each of these has a row
  key_present : (key : List ℕ) → is_among (with_targets relations (keys_of base.rows)) key ≡ true → IsKey (rows_of plan.rows) key
  key_present key among =
      let there : is_among (keys_of plan.rows) key ≡ true = subst (λ keys. is_among keys key ≡ true) (sym plan_keys) among in
      (key_iff plan.rows key).1 (contained_among (keys_of plan.rows) key there)

  -- and each row has one of these
  key_expected : (key : List ℕ) → is_among (keys_of plan.rows) key ≡ true → IsKey (rows_of base.rows) key ⊎ IsTarget relations key
  key_expected key among = elim (target_of_among relations (keys_of base.rows) key (subst (λ keys. is_among keys key ≡ true) plan_keys among)) [
    | inl there ↦ inl ((key_iff base.rows key).1 (contained_among (keys_of base.rows) key there))
    | inr target ↦ inr target
  ]

  -- an element has the numbered one as its image
  abbrev HasOwnImage : Element → Type 0
  HasOwnImage e = IsImage (maps_in base properties relations plan case) e (numbered (plans_in base properties relations plan case) (as_draft false e))

  -- each element of the base has
  each_image : AllByRecursion (λ row. AllByRecursion HasOwnImage row.elements) base.rows
  each_image = each_in_rows HasOwnImage base.rows (each_of HasOwnImage (elements_of base.rows) (base_image base properties relations plan case))

  -- so the row of a key that is no target has the images of the base row
  unchanged : (row : Entry) → rows_of base.rows row.key ≡ Some row.elements → AllByRecursion HasOwnImage row.elements →
      IsUnchangedRow (tailoring_by base properties relations plan) row
  unchanged row is images other new found =
      let basis = basis_of base properties in
      let plans = plans_in base properties relations plan case in
      let drafts = map (as_draft false) row.elements in
      let kept = row_kept basis 0 relations (begun basis) case.made.drafting row.key case.made.steps other in
      let before : draft_at (map row_as_draft base.rows) row.key ≡ Some drafts =
      draft_of_row base.rows row.key ∙ ap (option_map (λ es. map (as_draft false) es)) is in
      let after : rows_of plan.rows row.key ≡ Some (map (numbered plans) drafts) =
      tailored_row base properties relations plan case row.key ∙ ap (option_map (λ es. map (numbered plans) es)) (kept ∙ before) in
      let same : map (numbered plans) drafts ≡ new = cc in
      let maps = maps_in base properties relations plan case in
      subst (λ es. AreImages maps row.elements es) same (images_of_each maps plans row.elements images)

  -- and each element is covered
  covered_rows : AllByRecursion (IsCoveredRow (tailoring_by base properties relations plan)) base.rows
  covered_rows =
      let maps = maps_in base properties relations plan case in
      let plans = plans_in base properties relations plan case in
      each_weaker (λ row. AllByRecursion HasOwnImage row.elements) (IsCoveredRow (tailoring_by base properties relations plan))
      (λ row images. each_weaker HasOwnImage (IsCovered maps) (λ e. covered maps e (numbered plans (as_draft false e))) row.elements images)
      base.rows each_image

  -- ---- The conditions, row by row

  -- the rows of keys that are no targets are images
  unchanged_rows : AllByRecursion (IsUnchangedRow (tailoring_by base properties relations plan)) base.rows
  unchanged_rows =
      each_of_both (λ row. rows_of base.rows row.key ≡ Some row.elements) (λ row. AllByRecursion HasOwnImage row.elements)
      (IsUnchangedRow (tailoring_by base properties relations plan)) unchanged base.rows (each_found base.rows case.table.rows.distinct) each_image

  -- the keys of the base have rows
  present_rows : AllByRecursion (IsPresentRow (tailoring_by base properties relations plan)) base.rows
  present_rows =
      each_weaker (λ row. is_among (keys_of base.rows) row.key ≡ true) (IsPresentRow (tailoring_by base properties relations plan))
      (λ row there. key_present row.key (among_kept relations (keys_of base.rows) row.key there)) base.rows (each_key base.rows)

  -- and so have the targets
  present_targets : AllByRecursion (IsPresentTarget (tailoring_by base properties relations plan)) relations
  present_targets =
      each_weaker (λ r. IsTarget relations r.target.points) (IsPresentTarget (tailoring_by base properties relations plan))
      (λ r target. key_present r.target.points (target_among relations (keys_of base.rows) r.target.points target)) relations (each_target relations)

  -- no other key has a row
  expected_rows : AllByRecursion (IsExpectedRow (tailoring_by base properties relations plan)) plan.rows
  expected_rows =
      each_weaker (λ row. is_among (keys_of plan.rows) row.key ≡ true) (IsExpectedRow (tailoring_by base properties relations plan))
      (λ row there. key_expected row.key there) plan.rows (each_key plan.rows)

-- the base is well-formed
pub meets_base : PlansMeet BaseIllFormed
meets_base base properties relations plan is = is.well_formed

-- both tables have one header
pub meets_header : PlansMeet Header
meets_header base properties relations plan is = refl

-- each weight of the base has an image
pub meets_uncovered : PlansMeet Uncovered
meets_uncovered base properties relations plan is = covered_rows base properties relations plan (case_of base properties relations plan is)

-- the rows of other keys than targets are images
pub meets_row_changed : PlansMeet RowChanged
meets_row_changed base properties relations plan is = unchanged_rows base properties relations plan (case_of base properties relations plan is)

-- the keys of the base and the targets have rows
pub meets_row_missing : PlansMeet RowMissing
meets_row_missing base properties relations plan is =
    let case = case_of base properties relations plan is in
    (present_rows base properties relations plan case, present_targets base properties relations plan case)

-- and no others have
pub meets_row_extra : PlansMeet RowExtra
meets_row_extra base properties relations plan is = expected_rows base properties relations plan (case_of base properties relations plan is)
