use Rattle.uca_compact.proofs.WholeKeys.{none_begins}
use Rattle.uca_compact.proofs.laws.no_compact_key_begins_another.Goals as goal

pub returns : goal.returns
returns c = none_begins
