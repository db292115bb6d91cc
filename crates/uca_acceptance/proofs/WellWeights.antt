-- The weights of a plan's drafts are in such an order that the numbered rows meet WF2, WF3 and WF4.
use Rattle.std.proofs.Common.{List}
use Rattle.uca_values.specs.Content.{TableContent, Properties}
use Rattle.uca_relations.specs.declared.Relation.{Relation}
use Rattle.uca_plans.specs.Plans.{Plan, begun}
use Rattle.uca_plans.specs.Tailors.{basis_of}
use Rattle.uca_plans.proofs.PlanHolds.{start}
use Rattle.uca_acceptance.proofs.PlanCase.{IsCase}
use Rattle.uca_acceptance.proofs.BaseWell.{base_well}
use Rattle.uca_acceptance.proofs.WellSteps.{steps_well}
pub use Rattle.uca_acceptance.proofs.WellDrafts.{IsPrimaryDraft, IsSecondaryDraft, IsTertiaryDraft, AreHighBelow, IsBelow, IsBelowOrZero}
pub use Rattle.uca_acceptance.proofs.WellDrafts.{StandWell, HasWellWeights}

-- the weights of a plan's drafts are in good order
pub well_weights : (base : TableContent) (properties : Properties) (relations : List Relation) (plan : Plan)
    (case : IsCase base properties relations plan) → HasWellWeights (basis_of base properties) case.made.drafting
well_weights base properties relations plan case =
    let basis = basis_of base properties in
    let entries = case.table.rows.entries in
    steps_well basis 0 relations (begun basis) case.made.drafting (start basis entries case.well.wf1) case.table.header.ranges case.rules.texts
    case.made.steps (base_well basis entries case.well)
