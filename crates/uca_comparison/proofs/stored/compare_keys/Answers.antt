use Rattle.std.proofs.Common.{arith}
use Rattle.uca_order.proofs.StoredOrder.{equal_level, differing_level}
use Rattle.uca_comparison.proofs.stored.compare_keys.Goals as goal

pub returns-in-Equal-clause-level : goal.returns-in-Equal-clause-level
returns-in-Equal-clause-level c = grind (arith, equal_level)

pub returns-in_default-clause-level : goal.returns-in_default-clause-level
returns-in_default-clause-level c = grind (arith, differing_level)
