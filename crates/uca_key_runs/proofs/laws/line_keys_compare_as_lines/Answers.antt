use Rattle.uca_key_runs.proofs.LineLaws.{line_keys_compare}
use Rattle.uca_key_runs.proofs.laws.line_keys_compare_as_lines.Goals as goal

pub returns : goal.returns
returns c = line_keys_compare c.keys_compare_as_texts.ensures
