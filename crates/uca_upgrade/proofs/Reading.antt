-- Why files are rejected, by the errors of their parts.
use Rattle.std.proofs.Common.{◌≢◌, refl}
use Rattle.uca_weights.specs.declared.Numbers.TheVariants.{AsText}
use Rattle.uca_changes.specs.Changes.{Change}
use Rattle.uca_owned.specs.Opening.{IsOpenCause, IsOpenStop}
use Rattle.uca_owned.specs.declared.faults.OpenFault.{OpenFault}
use Rattle.uca_owned.specs.declared.faults.OpenFault.TheVariants.{Table, Data, Digits, Memory}
use Rattle.uca_upgrade.specs.Causes.{IsEdition, IsUpgradeCause, IsUpgradeStop}
use Rattle.uca_upgrade.specs.declared.files.UpgradeFiles.{UpgradeFiles}
use Rattle.uca_upgrade.specs.inside.Read.{new_fault_of, old_fault_of}
use Rattle.uca_upgrade.proofs.Opened.{not_by_value}

pub old_cause : (files : UpgradeFiles) (fault : OpenFault) → fault ≢ Memory → IsOpenCause AsText files.old_table.now files.old_data.now fault
    → IsUpgradeCause AsText files (old_fault_of fault)
old_cause files (Table fault) file cause = cause
old_cause files (Data fault) file cause = cause
old_cause files (Digits row) file cause = absurd (not_by_value cause.3.asked)
old_cause files Memory file cause = absurd (file refl)

pub new_cause : (files : UpgradeFiles) → IsEdition files.old_table.now files.old_data.now → (fault : OpenFault) → fault ≢ Memory
    → IsOpenCause AsText files.new_table.now files.new_data.now fault → IsUpgradeCause AsText files (new_fault_of fault)
new_cause files old (Table fault) file cause = (old, cause)
new_cause files old (Data fault) file cause = (old, cause)
new_cause files old (Digits row) file cause = absurd (not_by_value cause.3.asked)
new_cause files old Memory file cause = absurd (file refl)

pub old_stop : (change : Change) (fault : OpenFault) → IsOpenStop AsText change.old change.old_properties fault → IsUpgradeStop AsText change (old_fault_of fault)
old_stop change (Table fault) stop = stop
old_stop change (Data fault) stop = stop
old_stop change (Digits row) stop = stop
old_stop change Memory stop = tt

pub new_stop : (change : Change) (fault : OpenFault) → IsOpenStop AsText change.new change.new_properties fault → IsUpgradeStop AsText change (new_fault_of fault)
new_stop change (Table fault) stop = stop
new_stop change (Data fault) stop = stop
new_stop change (Digits row) stop = stop
new_stop change Memory stop = tt
