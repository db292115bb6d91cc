use Rattle.uca_run_parts.proofs.AffectedLines.{affected_are_the_others}
use Rattle.uca_key_runs.proofs.laws.affected_texts_are_the_others.Goals as goal

pub returns : goal.returns
returns c = affected_are_the_others
