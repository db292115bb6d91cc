-- Part after part, the one reading is the other, with each element valued.
use Rattle.uca_plans.proofs.DraftReading.{read_as_rows}
use Rattle.uca_plans.proofs.laws.drafts_read_as_rows.Goals as goal

pub returns : goal.returns
returns c = read_as_rows
