use Rattle.uca_compact.proofs.StoredBack.{stored_only}
use Rattle.uca_compact.proofs.laws.only_stored_keys_are_read.Goals as goal

pub returns : goal.returns
returns c = stored_only
