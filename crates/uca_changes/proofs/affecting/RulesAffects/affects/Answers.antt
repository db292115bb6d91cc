use Rattle.uca_changes.proofs.AffectedTexts.{affected_unless}
use Rattle.uca_changes.proofs.affecting.RulesAffects.affects.Goals as goal

pub returns : goal.returns
returns g c = affected_unless c.args.self.now c.args.text.now.points c.untouched.result c.untouched.ensures
