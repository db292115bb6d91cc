use Rattle.uca_changes.proofs.FromTailorings.{are_changes}
use Rattle.uca_changes.proofs.laws.tailorings_are_changes.Goals as goal

pub returns : goal.returns
returns c = are_changes
