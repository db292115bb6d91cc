use Rattle.uca_changes.proofs.Unaffected.{unaffected_stay}
use Rattle.uca_changes.proofs.laws.changes_keep_unaffected_texts.Goals as goal

pub returns : goal.returns
returns c = unaffected_stay
