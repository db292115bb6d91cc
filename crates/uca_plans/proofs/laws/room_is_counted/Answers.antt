-- Each insertion adds one member to its side.
use Rattle.uca_plans.proofs.RoomCounts.{room_counted}
use Rattle.uca_plans.proofs.laws.room_is_counted.Goals as goal

pub returns : goal.returns
returns c = room_counted
