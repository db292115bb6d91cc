use Rattle.uca_key_runs.proofs.UntouchedLines.{untouched_lines}
use Rattle.uca_key_runs.proofs.laws.untouched_lines_keep_their_order.Goals as goal

pub returns : goal.returns
returns c = untouched_lines c.accepted_tailorings_are_faithful.ensures c.line_keys_compare_as_lines.ensures
