use Rattle.uca_upgrades.proofs.Accepted.{tailorings_keep}
use Rattle.uca_upgrades.proofs.laws.accepted_tailorings_keep_order.Goals as goal

pub returns : goal.returns
returns c = tailorings_keep c.changes_keep_unaffected_texts.ensures c.tailorings_are_changes.ensures
