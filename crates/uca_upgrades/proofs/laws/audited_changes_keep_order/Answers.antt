use Rattle.uca_upgrades.proofs.Accepted.{audited_changes_keep}
use Rattle.uca_upgrades.proofs.laws.audited_changes_keep_order.Goals as goal

pub returns : goal.returns
returns c = audited_changes_keep c.accepted_changes_keep_order.ensures
