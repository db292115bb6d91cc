use Rattle.uca_key_runs.proofs.LineLaws.{identical_lines}
use Rattle.uca_key_runs.proofs.laws.identical_line_keys_are_of_equivalent_lines.Goals as goal

pub returns : goal.returns
returns c = identical_lines c.identical_keys_are_of_equivalent_texts.ensures
