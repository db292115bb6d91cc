use Rattle.uca_ranges.proofs.CompactLevels.{compact_by_levels}
use Rattle.uca_ranges.proofs.laws.compact_keys_by_levels.Goals as goal

pub returns : goal.returns
returns c = compact_by_levels
