use Rattle.uca_rules.proofs.WorkedLaws.{worked}
use Rattle.uca_rules.proofs.laws.worked_rules.Goals as goal

pub returns : goal.returns
returns c = worked
