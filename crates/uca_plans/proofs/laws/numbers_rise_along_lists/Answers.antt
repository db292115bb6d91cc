-- Numbers rise along lists.
use Rattle.uca_plans.proofs.RisingNumbers.{rise_along_lists}
use Rattle.uca_plans.proofs.laws.numbers_rise_along_lists.Goals as goal

pub returns : goal.returns
returns c = rise_along_lists
