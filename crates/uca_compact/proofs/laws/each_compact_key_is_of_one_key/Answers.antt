use Rattle.uca_compact.proofs.WholeKeys.{one_key}
use Rattle.uca_compact.proofs.laws.each_compact_key_is_of_one_key.Goals as goal

pub returns : goal.returns
returns c = one_key
