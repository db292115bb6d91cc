-- The table and the certificate of a plan meet each condition of an audit.
use Rattle.uca_tailorings.specs.declared.conditions.Condition.TheVariants.{BaseIllFormed, TailoredIllFormed, Header, Uncovered, RowChanged, RowMissing}
use Rattle.uca_tailorings.specs.declared.conditions.Condition.TheVariants.{RowExtra, Anchor, NotPlaced, NotFresh, NotNearest}
use Rattle.uca_acceptance.specs.Accepted.{PlansAreAccepted}
use Rattle.uca_acceptance.proofs.RowConditions.{meets_base, meets_header, meets_uncovered, meets_row_changed, meets_row_missing, meets_row_extra}
use Rattle.uca_acceptance.proofs.WellFormedPlans.{meets_well_formed}
use Rattle.uca_acceptance.proofs.PlacedTargets.{meets_anchor, meets_not_placed}
use Rattle.uca_acceptance.proofs.NewWeights.{meets_not_fresh, meets_not_nearest}

-- a plan meets each
pub accepted : PlansAreAccepted
accepted BaseIllFormed = meets_base
accepted TailoredIllFormed = meets_well_formed
accepted Header = meets_header
accepted Uncovered = meets_uncovered
accepted RowChanged = meets_row_changed
accepted RowMissing = meets_row_missing
accepted RowExtra = meets_row_extra
accepted Anchor = meets_anchor
accepted NotPlaced = meets_not_placed
accepted NotFresh = meets_not_fresh
accepted NotNearest = meets_not_nearest
