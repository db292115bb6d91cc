use Rattle.uca_compact.proofs.StoredBack.{stored_again}
use Rattle.uca_compact.proofs.laws.stored_keys_are_read.Goals as goal

pub returns : goal.returns
returns c = stored_again
