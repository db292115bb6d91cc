use Rattle.uca_audit.specs.inside.Views.{tailoring_in}
use Rattle.uca_audit.proofs.auditing.meaning.Goals as goal

pub returns : goal.returns
returns g c = c.accepted_tailorings_are_faithful.ensures (tailoring_in c.args.inputs.now) c.know.ensures c.requires
