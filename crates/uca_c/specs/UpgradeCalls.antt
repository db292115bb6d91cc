-- What calls of an upgrade do.
use Rattle.std.specs.Borrow.{Bor}
use Rattle.std.specs.Prelude.{◌≡◌, ◌⊎◌, ℕ, List, Some, None}
use Rattle.uca_weights.specs.declared.Asked.{Asked}
use Rattle.uca_values.specs.Content.{properties_of}
use Rattle.uca_changes.specs.Changes.{Change}
use Rattle.uca_owned.specs.Causes.{IsAcceptedText, IsKeyCause}
use Rattle.uca_upgrade.specs.Causes.{IsUpgradeCause}
use Rattle.uca_upgrade.specs.Files.{MeanChange}
use Rattle.uca_upgrade.specs.Opening.{OpensUpgrade}
use Rattle.uca_upgrade.specs.Upgrades.{UpgradeState, rekeyed_in}
use Rattle.uca_upgrade.specs.declared.files.UpgradeFiles.{UpgradeFiles}
use Rattle.uca_c.specs.Numbers.{asked_of}
use Rattle.uca_c.specs.Statuses.{IsErrorStatus, key_status}
use Rattle.uca_c.specs.UpgradeErrors.{TellsUpgrade, no_error}
use Rattle.uca_c.specs.declared.statuses.TheConstants.{OK, ARGUMENT}
use Rattle.uca_c.specs.declared.structs.UpgradeError.{UpgradeError}

-- ---- Opening

-- six files, as they are given
abbrev pub files_of : (old_table old_data new_table new_data changes certificate : Bor (List ℕ)) → UpgradeFiles
files_of old_table old_data new_table new_data changes certificate = record {
  old_table = old_table;
  old_data = old_data;
  new_table = new_table;
  new_data = new_data;
  changes = changes;
  certificate = certificate;
}

-- the numbers ask for settings, and the upgrade is that of an accepted change, which the files mean
pub record OpensUpgradeBy (weighting depth : ℕ) (files : UpgradeFiles) (upgrade : UpgradeState) : Type 0 where
  pub asked : Asked
  pub is_asked : asked_of weighting depth ≡ Some asked
  pub opens : OpensUpgrade files asked upgrade

-- the numbers ask for these settings, and the files mean this change
pub record AsksUpgrade (weighting depth : ℕ) (files : UpgradeFiles) (asked : Asked) (change : Change) : Type 0 where
  pub is_asked : asked_of weighting depth ≡ Some asked
  pub mean : MeanChange files change

-- why nothing was opened: a number, or what the error says
abbrev pub IsUpgradeOpenStatus : ℕ → ℕ → UpgradeFiles → UpgradeError → ℕ → Type 0
IsUpgradeOpenStatus weighting depth files error status =
    ((status ≡ ARGUMENT) × (asked_of weighting depth ≡ None) × (error ≡ no_error))
    ⊎ ((asked : Asked) × (asked_of weighting depth ≡ Some asked) × TellsUpgrade (IsUpgradeCause asked.numbers files) error status)

-- ---- Calls

-- what is read of the text is accepted, or it is rejected
abbrev pub IsTextStatus : UpgradeState → List ℕ → ℕ → Type 0
IsTextStatus upgrade text status =
    let properties = properties_of upgrade.data_file in
    let numbers = upgrade.settings.numbers in
    (IsAcceptedText numbers properties text × (status ≡ OK)) ⊎ IsErrorStatus (IsKeyCause numbers properties text) key_status status

-- a key put through the maps of the upgrade is this one
abbrev pub IsRekeyed : UpgradeState → (key made : List ℕ) → Type 0
IsRekeyed upgrade key made = rekeyed_in upgrade key ≡ Some made
