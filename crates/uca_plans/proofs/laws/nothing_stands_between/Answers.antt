-- Nothing is between.
use Rattle.uca_plans.proofs.InsertionLemmas.{stands_next}
use Rattle.uca_plans.proofs.laws.nothing_stands_between.Goals as goal

pub returns : goal.returns
returns c = stands_next
