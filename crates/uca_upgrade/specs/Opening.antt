-- Opening an upgrade by the bytes of six files.
use Rattle.uca_weights.specs.declared.Asked.{Asked}
use Rattle.uca_changes.specs.Changes.{Change, IsAcceptedChange}
use Rattle.uca_upgrade.specs.declared.files.UpgradeFiles.{UpgradeFiles}
use Rattle.uca_upgrade.specs.Causes.{TakesTables}
use Rattle.uca_upgrade.specs.Files.{MeanChange}
use Rattle.uca_upgrade.specs.Upgrades.{KeepsChange, KeysAreRenewed, UpgradeState}

-- The upgrade is that of this change, which the files mean. Its tables are for what is asked for, an audit accepts the change, and
-- stored keys are renewed by it.
pub record IsUpgradeOf (files : UpgradeFiles) (change : Change) (asked : Asked) (upgrade : UpgradeState) : Type 0 where
  pub taken : TakesTables asked.numbers change
  pub accepted : IsAcceptedChange change
  pub kept : KeepsChange files change asked upgrade
  pub keys : KeysAreRenewed change asked upgrade

-- the files mean a change, and the upgrade is that of it
abbrev pub OpensUpgrade : UpgradeFiles → Asked → UpgradeState → Type 0
OpensUpgrade files asked upgrade = (change : Change) × MeanChange files change × IsUpgradeOf files change asked upgrade
