-- Each run begins where the one after it does not go on from it.
use Rattle.uca_plans.proofs.LongestRuns.{runs_longest}
use Rattle.uca_plans.proofs.laws.runs_are_longest.Goals as goal

pub returns : goal.returns
returns c = runs_longest
