use Rattle.uca_upgrades.proofs.Accepted.{audited_tailorings_keep}
use Rattle.uca_upgrades.proofs.laws.audited_tailorings_keep_order.Goals as goal

pub returns : goal.returns
returns c = audited_tailorings_keep c.accepted_tailorings_keep_order.ensures
