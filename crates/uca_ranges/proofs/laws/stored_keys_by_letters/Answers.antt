use Rattle.uca_ranges.proofs.StoredRanges.{stored_by_letters}
use Rattle.uca_ranges.proofs.laws.stored_keys_by_letters.Goals as goal

pub returns : goal.returns
returns c = stored_by_letters
