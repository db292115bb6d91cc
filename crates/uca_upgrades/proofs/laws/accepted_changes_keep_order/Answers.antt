use Rattle.uca_upgrades.proofs.Accepted.{changes_keep}
use Rattle.uca_upgrades.proofs.laws.accepted_changes_keep_order.Goals as goal

pub returns : goal.returns
returns c = changes_keep c.changes_keep_unaffected_texts.ensures
