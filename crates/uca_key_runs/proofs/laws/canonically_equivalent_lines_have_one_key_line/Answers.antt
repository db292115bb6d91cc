use Rattle.uca_key_runs.proofs.LineLaws.{one_key_line}
use Rattle.uca_key_runs.proofs.laws.canonically_equivalent_lines_have_one_key_line.Goals as goal

pub returns : goal.returns
returns c = one_key_line
