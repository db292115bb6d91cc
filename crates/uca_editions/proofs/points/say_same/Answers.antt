use Rattle.std.proofs.Common.{rules}
use Rattle.uca_editions.proofs.points.say_same.Goals as goal

pub returns-then-is_core : goal.returns-then-is_core
returns-then-is_core g c = search rules
