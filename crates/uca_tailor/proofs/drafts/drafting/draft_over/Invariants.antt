-- The relations so far are drafted.
use Rattle.uca_tailor.proofs.DraftLemmas.DraftingSteps.{IsDrafted}
use Rattle.uca_values.specs.Content.{properties_of}
use Rattle.uca_plans.specs.Tailors.{basis_of}
use Rattle.uca_tailor.proofs.drafts.drafting.draft_over.Given as goal

abbrev pub invariant-loop-at : goal.invariant-loop-at
invariant-loop-at g l = IsDrafted (basis_of l.base (properties_of l.properties)) l.relation-items l.at l.drafting
