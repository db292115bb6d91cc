-- Each target comes after the keys so far, unless it is a base key.
use Rattle.uca_plans.proofs.NewKeys.{plan_keys}
use Rattle.uca_plans.proofs.laws.keys_of_plans.Goals as goal

pub returns : goal.returns
returns c = plan_keys
