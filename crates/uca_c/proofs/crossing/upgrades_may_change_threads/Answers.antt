-- By what its fields are.
use Rattle.uca_c.proofs.upgrade_slot.UpgradeSlot.TheSendSync.{the_send}
use Rattle.uca_c.proofs.crossing.upgrades_may_change_threads.Goals as goal

pub returns : goal.returns
returns c = the_send
