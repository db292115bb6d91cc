-- Runs send base weights to their numbers.
use Rattle.uca_plans.proofs.RunImages.{send_base_weights}
use Rattle.uca_plans.proofs.laws.runs_send_base_weights.Goals as goal

pub returns : goal.returns
returns c = send_base_weights
