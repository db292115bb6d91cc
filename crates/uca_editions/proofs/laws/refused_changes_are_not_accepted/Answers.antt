use Rattle.uca_editions.proofs.NotAccepted.{refused_not_accepted}
use Rattle.uca_editions.proofs.laws.refused_changes_are_not_accepted.Goals as goal

pub returns : goal.returns
returns c = refused_not_accepted
