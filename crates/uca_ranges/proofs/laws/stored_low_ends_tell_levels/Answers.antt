use Rattle.uca_ranges.proofs.LowEnds.{stored_told}
use Rattle.uca_ranges.proofs.laws.stored_low_ends_tell_levels.Goals as goal

pub returns : goal.returns
returns c = stored_told
