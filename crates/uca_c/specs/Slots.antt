-- What a collator of C's and an upgrade of C's hold.
use Rattle.uca_upgrade.specs.Upgrades.{UpgradeState}
use Rattle.uca_c.specs.OpenCollators.{OpenState}
use Rattle.uca_c.specs.declared.slot.Slot.{Slot}
use Rattle.uca_c.specs.declared.upgrade_slot.UpgradeSlot.{UpgradeSlot}

-- a collator that is closed has some value, which says nothing
abbrev pub collator_in : Slot → OpenState
collator_in s = s.kept.0

abbrev pub upgrade_in : UpgradeSlot → UpgradeState
upgrade_in s = s.kept.0
