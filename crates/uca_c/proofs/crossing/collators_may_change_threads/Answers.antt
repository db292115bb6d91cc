-- By what its fields are.
use Rattle.uca_c.proofs.slot.Slot.TheSendSync.{the_send}
use Rattle.uca_c.proofs.crossing.collators_may_change_threads.Goals as goal

pub returns : goal.returns
returns c = the_send
