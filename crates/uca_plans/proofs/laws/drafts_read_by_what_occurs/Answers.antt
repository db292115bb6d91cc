-- Part after part, both readings are of the same rows.
use Rattle.uca_plans.proofs.DraftReading.{read_by_what_occurs}
use Rattle.uca_plans.proofs.laws.drafts_read_by_what_occurs.Goals as goal

pub returns : goal.returns
returns c = read_by_what_occurs
