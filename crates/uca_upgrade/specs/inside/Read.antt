-- What was read of the six files.
use Rattle.std.specs.Global.{Global}
use Rattle.std.specs.Prelude.{◌≡◌, ⊤}
use Rattle.uca_weights.specs.declared.Numbers.{Numbers}
use Rattle.uca_values.specs.Content.{TableContent, Properties, properties_of}
use Rattle.uca_certificates.specs.Texts as certificates
use Rattle.uca_tailorings.specs.Inputs.{maps_of}
use Rattle.uca_change_files.specs.ChangeTexts as changes
use Rattle.uca_changes.specs.Changes.{Change}
use Rattle.uca_changes.specs.declared.faults.ChangeFault.{ChangeFault}
use Rattle.uca_changes.specs.declared.faults.ChangeFault.TheVariants as change_faults
use Rattle.uca_editions.specs.AffectedTexts.{listed_in}
use Rattle.uca_editions.specs.declared.files.EditionFiles.{EditionFiles}
use Rattle.uca_editions.specs.declared.listed.ListedChanges.{ListedChanges}
use Rattle.uca_editions.specs.ChangeRefusals.{IsFirstRefusal}
use Rattle.uca_number_keys.specs.Tables.{RefusesTable}
use Rattle.uca_owned.specs.Opening.{MeanFiles}
use Rattle.uca_owned.specs.declared.faults.OpenFault.{OpenFault}
use Rattle.uca_owned.specs.declared.faults.OpenFault.TheVariants as open_faults
use Rattle.uca_upgrade.specs.declared.faults.UpgradeFault.{UpgradeFault}
use Rattle.uca_upgrade.specs.declared.faults.UpgradeFault.TheVariants.{OldTable, OldData, NewTable, NewData, OldDigits, NewDigits, NotMet, Memory}
use Rattle.uca_upgrade.specs.declared.files.UpgradeFiles.{UpgradeFiles}

-- ---- Two editions

-- the bytes of both editions mean what was read
pub record EditionsMean (files : UpgradeFiles) (read : EditionFiles Global) : Type 0 where
  pub old : MeanFiles files.old_table.now files.old_data.now read.old.table (properties_of read.old.properties)
  pub new : MeanFiles files.new_table.now files.new_data.now read.new.table (properties_of read.new.properties)

-- what was read is what a change has
pub record AreEditionsOf (change : Change) (read : EditionFiles Global) : Type 0 where
  pub old : read.old.table ≡ change.old
  pub old_data : properties_of read.old.properties ≡ change.old_properties
  pub new : read.new.table ≡ change.new
  pub new_data : properties_of read.new.properties ≡ change.new_properties

-- the error of a file of the old edition, and of the new one
abbrev pub old_fault_of : OpenFault → UpgradeFault
old_fault_of (open_faults.Table fault) = OldTable fault
old_fault_of (open_faults.Data fault) = OldData fault
old_fault_of (open_faults.Digits row) = OldDigits row
old_fault_of open_faults.Memory = Memory

abbrev pub new_fault_of : OpenFault → UpgradeFault
new_fault_of (open_faults.Table fault) = NewTable fault
new_fault_of (open_faults.Data fault) = NewData fault
new_fault_of (open_faults.Digits row) = NewDigits row
new_fault_of open_faults.Memory = Memory

-- ---- What is listed

-- the bytes of the file of changes and of the certificate mean what was read
pub record ListMeans (files : UpgradeFiles) (read : ListedChanges Global) : Type 0 where
  pub list : changes.Means files.changes.now read.list
  pub certificate : certificates.Means files.certificate.now read.certificate

-- what was read is what a change lists
pub record IsListedOf (change : Change) (read : ListedChanges Global) : Type 0 where
  pub list : read.list ≡ listed_in change
  pub maps : maps_of read.certificate ≡ change.maps

-- ---- What comes after all files

-- why a table that was read is none for such numbers, or that memory ran out
abbrev pub IsTableStop : Numbers → TableContent → Properties → OpenFault → Type 0
IsTableStop numbers table properties (open_faults.Digits row) = RefusesTable numbers table properties row
IsTableStop numbers table properties open_faults.Memory = ⊤
IsTableStop numbers table properties _ = ⊥

-- how its error is returned
abbrev pub audit_fault_of : ChangeFault → UpgradeFault
audit_fault_of (change_faults.NotMet condition place) = NotMet condition place
audit_fault_of change_faults.Memory = Memory

-- why there is no upgrade of a change that was read: a table is none for such numbers, the audit rejects it, or an allocation failed
abbrev pub IsAuditStop : Numbers → Change → UpgradeFault → Type 0
IsAuditStop numbers change (OldDigits row) = RefusesTable numbers change.old change.old_properties row
IsAuditStop numbers change (NewDigits row) = RefusesTable numbers change.new change.new_properties row
IsAuditStop numbers change (NotMet condition place) = IsFirstRefusal change (change_faults.NotMet condition place)
IsAuditStop numbers change Memory = ⊤
IsAuditStop numbers change _ = ⊥
