use Rattle.uca_editions.specs.ChangeInputs.{change_in}
use Rattle.uca_editions.proofs.Chaining.{meets_all}
use Rattle.uca_editions.proofs.auditing.audit_change.Goals as goal

pub meaning-requires : goal.meaning-requires
meaning-requires g c = meets_all (change_in c.args.inputs.now) c.in-Ok.ensures
