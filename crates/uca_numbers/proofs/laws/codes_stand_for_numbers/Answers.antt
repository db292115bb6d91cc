use Rattle.uca_numbers.proofs.Rewriting.{codes_stand}
use Rattle.uca_numbers.proofs.laws.codes_stand_for_numbers.Goals as goal

pub returns : goal.returns
returns c = codes_stand
