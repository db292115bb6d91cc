use Rattle.uca_numbers.proofs.Comparing.{numbers_compare}
use Rattle.uca_numbers.proofs.laws.numbers_compare_by_value.Goals as goal

pub returns : goal.returns
returns c = numbers_compare
