-- What both editions are, or which file is rejected.
use Rattle.std.proofs.Common.{subst, sym}
use Rattle.uca_weights.specs.declared.Numbers.TheVariants.{AsText}
use Rattle.uca_values.specs.Content.{properties_of}
use Rattle.uca_upgrade.specs.Causes.{IsUpgradeCause, IsUpgradeStop}
use Rattle.uca_upgrade.proofs.Reading.{new_cause, new_stop, old_cause, old_stop}
use Rattle.uca_upgrade.proofs.files.read_editions.Goals as goal

pub returns-in-Ok-read_edition-clause-only : goal.returns-in-Ok-read_edition-clause-only
returns-in-Ok-read_edition-clause-only c change mean =
    let old = c.in-Ok.ensures.only change.old change.old_properties mean.old in
    let new = c.in-Ok-read_edition.ensures.only change.new change.new_properties mean.new in
    record { old = old.0; old_data = old.1; new = new.0; new_data = new.1 }

pub returns-in-Err-read_edition-clause-only : goal.returns-in-Err-read_edition-clause-only
returns-in-Err-read_edition-clause-only c change mean =
    subst (IsUpgradeStop AsText change) (sym c.new_fault.ensures)
    (new_stop change c.in-Err-read_edition.fault (c.in-Err-read_edition.ensures.only change.new change.new_properties mean.new))

pub returns-in-Err-read_edition-clause-fault : goal.returns-in-Err-read_edition-clause-fault
returns-in-Err-read_edition-clause-fault c =
    subst (IsUpgradeCause AsText c.args.files.now) (sym c.new_fault.ensures)
    (new_cause c.args.files.now (c.in-Ok.old.table, properties_of c.in-Ok.old.properties, c.in-Ok.ensures.found) c.in-Err-read_edition.fault
    c.in-Err-read_edition.ensures.file c.in-Err-read_edition.ensures.fault)

pub returns-in-Err-clause-only : goal.returns-in-Err-clause-only
returns-in-Err-clause-only c change mean =
    subst (IsUpgradeStop AsText change) (sym c.old_fault.ensures)
    (old_stop change c.in-Err.fault (c.in-Err.ensures.only change.old change.old_properties mean.old))

pub returns-in-Err-clause-fault : goal.returns-in-Err-clause-fault
returns-in-Err-clause-fault c =
    subst (IsUpgradeCause AsText c.args.files.now) (sym c.old_fault.ensures) (old_cause c.args.files.now c.in-Err.fault c.in-Err.ensures.file c.in-Err.ensures.fault)
