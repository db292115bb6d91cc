use Rattle.uca_rekey.proofs.WorkedLines.{worked}
use Rattle.uca_rekey.proofs.laws.worked_lines.Goals as goal

pub returns : goal.returns
returns c = worked
