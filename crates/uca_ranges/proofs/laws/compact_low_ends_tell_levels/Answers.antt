use Rattle.uca_ranges.proofs.LowEnds.{compact_told}
use Rattle.uca_ranges.proofs.laws.compact_low_ends_tell_levels.Goals as goal

pub returns : goal.returns
returns c = compact_told
