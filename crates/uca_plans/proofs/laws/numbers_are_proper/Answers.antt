-- Numbers are proper.
use Rattle.uca_plans.proofs.NumberLemmas.{proper_numbers}
use Rattle.uca_plans.proofs.laws.numbers_are_proper.Goals as goal

pub returns : goal.returns
returns c = proper_numbers
