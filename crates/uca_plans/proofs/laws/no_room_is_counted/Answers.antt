-- By the counts of each level.
use Rattle.uca_plans.proofs.NoRoom.{no_room_counted}
use Rattle.uca_plans.proofs.laws.no_room_is_counted.Goals as goal

pub returns : goal.returns
returns c = no_room_counted
