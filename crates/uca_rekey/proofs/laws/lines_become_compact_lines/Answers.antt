use Rattle.uca_rekey.proofs.MovedLines.{lines_become_compact}
use Rattle.uca_rekey.proofs.laws.lines_become_compact_lines.Goals as goal

pub returns : goal.returns
returns c = lines_become_compact
