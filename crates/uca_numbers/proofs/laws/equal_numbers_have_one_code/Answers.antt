use Rattle.uca_numbers.proofs.Comparing.{one_code}
use Rattle.uca_numbers.proofs.laws.equal_numbers_have_one_code.Goals as goal

pub returns : goal.returns
returns c = one_code
