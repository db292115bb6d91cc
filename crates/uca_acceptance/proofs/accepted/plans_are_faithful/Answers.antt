-- They are accepted tailorings.
use Rattle.uca_acceptance.proofs.TailoringParts.{are_faithful}
use Rattle.uca_acceptance.proofs.accepted.plans_are_faithful.Goals as goal

pub returns : goal.returns
returns c = are_faithful
