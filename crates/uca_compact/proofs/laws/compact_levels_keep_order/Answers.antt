use Rattle.uca_compact.proofs.LevelsOrder.{compact_order}
use Rattle.uca_compact.proofs.laws.compact_levels_keep_order.Goals as goal

pub returns : goal.returns
returns c = compact_order
