use Rattle.uca_values.specs.Content.{properties_of}
use Rattle.uca_tailor.proofs.RefusalLaws.{check_decides}
use Rattle.uca_tailor.proofs.tailoring.is_well_formed.Goals as goal

pub returns : goal.returns
returns g c =
    rw c.is_ok.ensures.value
    (check_decides (properties_of c.args.properties.now).class c.args.table.now.rows c.check.result c.check.ensures.well_formed c.check.ensures.ill_formed)
