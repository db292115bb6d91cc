use Rattle.uca_changes.proofs.WorkedChanges.{worked}
use Rattle.uca_changes.proofs.laws.worked_changes.Goals as goal

pub returns : goal.returns
returns c = worked
