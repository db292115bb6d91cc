-- Its table and its certificate are such.
use Rattle.uca_acceptance.proofs.TailoringParts.{make_tailorings}
use Rattle.uca_acceptance.proofs.accepted.plans_make_tailorings.Goals as goal

pub returns : goal.returns
returns c = make_tailorings
