use Rattle.uca_editions.proofs.AffectedTexts.{affected_are_the_others}
use Rattle.uca_editions.proofs.laws.affected_by_changes_are_the_others.Goals as goal

pub returns : goal.returns
returns c = affected_are_the_others
