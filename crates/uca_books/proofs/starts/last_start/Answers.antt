use Rattle.std.proofs.Common.{sym}
use Rattle.uca_books.proofs.Orders.{last_is}
use Rattle.uca_books.proofs.starts.last_start.Goals as goal

pub returns-in-Some : goal.returns-in-Some
returns-in-Some c = sym (last_is 1 c.args.starts.now c.in-Some.last.now c.in-Some.ensures.value)
