-- Each condition in turn.
use Rattle.uca_acceptance.proofs.AllConditions.{accepted}
use Rattle.uca_acceptance.proofs.accepted.plans_are_accepted.Goals as goal

pub returns : goal.returns
returns c = accepted
