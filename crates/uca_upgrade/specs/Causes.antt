-- Why no upgrade is opened.
use Rattle.std.specs.Prelude.{◌≡◌, ◌≢◌, ℕ, List, Option, ⊤}
use Rattle.uca_weights.specs.declared.Numbers.{Numbers}
use Rattle.uca_values.specs.Content.{TableContent, Properties}
use Rattle.uca_values.specs.declared.faults.FaultKind.TheVariants as kinds
use Rattle.uca_values.specs.declared.faults.TableFault.{TableFault}
use Rattle.uca_certificates.specs.Texts as certificates
use Rattle.uca_certificates.specs.declared.faults.CertificateFault.{CertificateFault}
use Rattle.uca_certificates.specs.declared.faults.CertificateFaultKind.TheVariants as certificate_kinds
use Rattle.uca_change_files.specs.Changes.{ChangeContent}
use Rattle.uca_change_files.specs.ChangeTexts as changes
use Rattle.uca_changes.specs.Changes.{Change}
use Rattle.uca_changes.specs.declared.faults.ChangeFault.TheVariants as change_faults
use Rattle.uca_editions.specs.ChangeRefusals.{IsFirstRefusal}
use Rattle.uca_number_keys.specs.Tables.{TakesTable, RefusesTable}
use Rattle.uca_owned.specs.Opening.{MeanFiles, RejectsTable, RejectsDataAfter}
use Rattle.uca_upgrade.specs.declared.faults.UpgradeFault.{UpgradeFault}
use Rattle.uca_upgrade.specs.declared.faults.UpgradeFault.TheVariants.{OldTable, OldData, NewTable, NewData, Changes, Certificate, OldDigits, NewDigits, NotMet, Memory}
use Rattle.uca_upgrade.specs.declared.files.UpgradeFiles.{UpgradeFiles}
use Rattle.uca_upgrade.specs.Files.{MeanChange}

-- the bytes are a table and its data file
abbrev pub IsEdition : List ℕ → List ℕ → Type 0
IsEdition table_bytes data_bytes = (table : TableContent) × (properties : Properties) × MeanFiles table_bytes data_bytes table properties

-- those of both editions are
abbrev pub AreEditions : UpgradeFiles → Type 0
AreEditions files = IsEdition files.old_table.now files.old_data.now × IsEdition files.new_table.now files.new_data.now

-- Why the bytes of a file of changes are rejected, whatever is left of them. Reading bytes in memory does not fail.
pub record RejectsChanges (bytes : List ℕ) (fault : TableFault) : Type 0 where
  pub left : Option (List ℕ)
  pub cause : changes.Refuses bytes left fault
  pub not_read : fault.kind ≢ kinds.Read

-- why the bytes of a certificate are rejected
pub record RejectsCertificate (bytes : List ℕ) (fault : CertificateFault) : Type 0 where
  pub left : Option (List ℕ)
  pub cause : certificates.Refuses bytes left fault
  pub not_read : fault.kind ≢ certificate_kinds.Read

-- A file is rejected, and those before it are not. Or the files mean a change, and one of its tables is none for numbers that are
-- compared so, the old one first. Or the change does not meet the condition, first at this place. Or an allocation failed later.
abbrev pub IsUpgradeCause : Numbers → UpgradeFiles → UpgradeFault → Type 0
IsUpgradeCause numbers files (OldTable fault) = RejectsTable files.old_table.now fault
IsUpgradeCause numbers files (OldData fault) = RejectsDataAfter files.old_table.now files.old_data.now fault
IsUpgradeCause numbers files (NewTable fault) = IsEdition files.old_table.now files.old_data.now × RejectsTable files.new_table.now fault
IsUpgradeCause numbers files (NewData fault) =
    IsEdition files.old_table.now files.old_data.now × RejectsDataAfter files.new_table.now files.new_data.now fault
IsUpgradeCause numbers files (Changes fault) = AreEditions files × RejectsChanges files.changes.now fault
IsUpgradeCause numbers files (Certificate fault) =
    AreEditions files × ((content : ChangeContent) × changes.Means files.changes.now content) × RejectsCertificate files.certificate.now fault
IsUpgradeCause numbers files (OldDigits row) =
    (change : Change) × MeanChange files change × RefusesTable numbers change.old change.old_properties row
IsUpgradeCause numbers files (NewDigits row) =
    (change : Change) × MeanChange files change × RefusesTable numbers change.new change.new_properties row
IsUpgradeCause numbers files (NotMet condition place) =
    (change : Change) × MeanChange files change × IsFirstRefusal change (change_faults.NotMet condition place)
IsUpgradeCause numbers files Memory = (change : Change) × MeanChange files change

-- Why there is none though the files mean this change: one of its tables is none for such numbers, or the audit rejects the change,
-- or an allocation failed.
abbrev pub IsUpgradeStop : Numbers → Change → UpgradeFault → Type 0
IsUpgradeStop numbers change (OldTable fault) = fault.kind ≡ kinds.Memory
IsUpgradeStop numbers change (OldData fault) = fault.kind ≡ kinds.Memory
IsUpgradeStop numbers change (NewTable fault) = fault.kind ≡ kinds.Memory
IsUpgradeStop numbers change (NewData fault) = fault.kind ≡ kinds.Memory
IsUpgradeStop numbers change (Changes fault) = fault.kind ≡ kinds.Memory
IsUpgradeStop numbers change (Certificate fault) = fault.kind ≡ certificate_kinds.Memory
IsUpgradeStop numbers change (OldDigits row) = RefusesTable numbers change.old change.old_properties row
IsUpgradeStop numbers change (NewDigits row) = RefusesTable numbers change.new change.new_properties row
IsUpgradeStop numbers change (NotMet condition place) = IsFirstRefusal change (change_faults.NotMet condition place)
IsUpgradeStop numbers change Memory = ⊤

-- both tables of the change are for such numbers
abbrev pub TakesTables : Numbers → Change → Type 0
TakesTables numbers change = TakesTable numbers change.old change.old_properties × TakesTable numbers change.new change.new_properties
