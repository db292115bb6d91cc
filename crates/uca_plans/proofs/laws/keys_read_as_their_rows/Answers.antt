-- The key is its one part.
use Rattle.uca_plans.proofs.DraftReading.{read_of_key}
use Rattle.uca_plans.proofs.laws.keys_read_as_their_rows.Goals as goal

pub returns : goal.returns
returns c = read_of_key
