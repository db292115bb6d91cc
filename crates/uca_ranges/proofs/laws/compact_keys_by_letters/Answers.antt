use Rattle.uca_ranges.proofs.CompactLetters.{compact_by_letters}
use Rattle.uca_ranges.proofs.laws.compact_keys_by_letters.Goals as goal

pub returns : goal.returns
returns c = compact_by_letters
