use Rattle.uca_ranges.proofs.StoredRanges.{stored_by_levels}
use Rattle.uca_ranges.proofs.laws.stored_keys_by_levels.Goals as goal

pub returns : goal.returns
returns c = stored_by_levels
