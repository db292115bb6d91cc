use Rattle.uca_tailorings.proofs.Faithful.{accepted_are_faithful}
use Rattle.uca_tailorings.proofs.laws.accepted_tailorings_are_faithful.Goals as goal

pub returns : goal.returns
returns c = accepted_are_faithful
