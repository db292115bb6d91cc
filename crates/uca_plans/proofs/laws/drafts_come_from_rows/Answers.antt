-- What is true of all rows and all implicit elements is true of what is read.
use Rattle.uca_plans.proofs.DraftOrigins.{come_from_rows}
use Rattle.uca_plans.proofs.laws.drafts_come_from_rows.Goals as goal

pub returns : goal.returns
returns c = come_from_rows
