use Rattle.uca_editions.specs.ChangeInputs.{change_in}
use Rattle.uca_editions.proofs.auditing.meaning.Goals as goal

pub returns : goal.returns
returns g c old new =
    c.changes_keep_unaffected_texts.ensures (change_in c.args.inputs.now) old new
    (record { old = c.know_table.ensures; new = c.know_table-2.ensures; maps = c.know_certificate.ensures }) c.requires
