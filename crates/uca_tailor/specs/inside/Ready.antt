-- When one more relation can be read and its row put in its position.
use Rattle.std.specs.Prelude.{◌≡◌, ◌⊎◌, ℕ, ◌+◌, ◌<◌, ◌≤◌, List, [], ◌∷◌, ◌++◌, length, slice_set, false, Result, Ok, Err, MatchResult}
use Rattle.uca_values.specs.Content.{properties_of}
use Rattle.uca_text.specs.Texts.{NfdText}
use Rattle.uca_relations.specs.declared.Relation.{Relation}
use Rattle.uca_elements.specs.Positions.{Positions, is_placed, place_at}
use Rattle.uca_plans.specs.Drafts.{DraftRow, draft_elements}
use Rattle.uca_plans.specs.Keys.{keys_in, is_among, read_over, IsTextOf}
use Rattle.uca_plans.specs.declared.drafts.DraftElement.{DraftElement}
use Rattle.uca_plans.specs.declared.drafts.DraftWeight.TheVariants.{New}
use Rattle.uca_plans.specs.declared.drafts.Insertion.{Insertion}
use Rattle.uca_plans.specs.declared.faults.TailorKind.{TailorKind}
use Rattle.uca_plans.specs.Plans.{Basis, Drafting, drafted, with_relation}
use Rattle.uca_plans.specs.declared.faults.TailorFault.{TailorFault}
use Rattle.uca_plans.specs.Tailors.{basis_of, out_of_memory}
use Rattle.uca_tailor.specs.declared.drafts.readings.DraftBasis.{DraftBasis}
use Rattle.uca_tailor.specs.declared.drafts.targets.TargetDraft.{TargetDraft}
use Rattle.uca_tailor.specs.inside.Targets.{drafted_with, insertions_of}

-- the table and the properties that texts are read by
abbrev pub basis_in : {A T : Type 0} → DraftBasis A T → Basis
basis_in basis = basis_of basis.base.now (properties_of basis.properties.now)

-- the texts of the relation read over the positions as over the rows
abbrev pub ReadsAlike : Basis → Positions → List DraftRow → Relation → Type 0
ReadsAlike basis positions rows r = (text : NfdText) → IsTextOf r text →
    read_over basis.ranges basis.properties (is_placed positions) rows text ≡ draft_elements basis.ranges basis.properties rows text

-- the positions are those of the rows' keys, in their order, and then of these
abbrev pub ArePositionsWith : Positions → List DraftRow → List (List ℕ) → Type 0
ArePositionsWith positions rows more = (key : List ℕ) → positions key ≡ place_at 0 (keys_in rows ++ more) key

-- the rows are the first of those that have positions, and one more relation can be read
pub record IsReady (basis : Basis) (positions : Positions) (rows : List DraftRow) (r : Relation) : Type 0 where
  pub more : List (List ℕ)
  pub each : ArePositionsWith positions rows more
  pub few : length (keys_in rows ++ more) ≤ 200000
  -- where the target has no position, there is no room for its row
  pub full : is_among (keys_in rows ++ more) r.target.points ≡ false → 200000 ≤ length rows
  pub alike : ReadsAlike basis positions rows r

-- the relation after n others is rejected for this cause, or an allocation failed
abbrev pub IsRejected : Basis → Drafting → ℕ → Relation → TailorFault → Type 0
IsRejected basis so_far n r fault =
    ((with_relation basis so_far n r ≡ Err fault.kind) × (fault.relation ≡ n + 1)) ⊎ (fault ≡ out_of_memory)

-- The row of a relation's target takes this position, or the relation is rejected. So it is with one more relation after n others that
-- gives its target these elements, if the draft is not that of a rejected anchor.
abbrev pub TakesRow : Basis → List DraftRow → Relation → TargetDraft → List DraftElement → Result ℕ TailorKind → Type 0
TakesRow basis rows r draft elements result =
    (so_far : List Insertion) (n : ℕ)
    → drafted basis (record { rows = rows; insertions = so_far }) (New n) r ≡ drafted_with elements draft
    → MatchResult result
    (λ at. (next : Drafting) → (at < length rows → next.rows ≡ slice_set rows at (record { key = r.target.points; elements = elements }))
    → (length rows ≤ at → next.rows ≡ rows ++ record { key = r.target.points; elements = elements } ∷ [])
    → next.insertions ≡ so_far ++ insertions_of draft → with_relation basis (record { rows = rows; insertions = so_far }) n r ≡ Ok next)
    (λ kind. with_relation basis (record { rows = rows; insertions = so_far }) n r ≡ Err kind)
