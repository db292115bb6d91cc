-- The statements that a slot, which is a collator of C's, may go to another thread, and so an upgrade of C's.
use denote.Param.Send.{IsSend}
use Rattle.uca_c.specs.contracts.slot.Slot.{the_row}
use Rattle.uca_c.specs.contracts.upgrade_slot.UpgradeSlot as Upgrade

abbrev pub IsSendSlot : Type 0
IsSendSlot = IsSend the_row

abbrev pub IsSendUpgradeSlot : Type 0
IsSendUpgradeSlot = IsSend Upgrade.the_row
