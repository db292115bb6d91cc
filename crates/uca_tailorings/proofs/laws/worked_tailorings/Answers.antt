use Rattle.uca_tailorings.proofs.WorkedLaws.{worked}
use Rattle.uca_tailorings.proofs.laws.worked_tailorings.Goals as goal

pub returns : goal.returns
returns c = worked
