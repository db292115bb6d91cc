use Rattle.uca_compact.proofs.Lengths.{compact_is_short}
use Rattle.uca_compact.proofs.laws.compact_keys_are_short.Goals as goal

pub returns : goal.returns
returns c = compact_is_short
