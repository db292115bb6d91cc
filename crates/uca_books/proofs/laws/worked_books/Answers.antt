use Rattle.uca_books.proofs.WorkedLaws.{worked}
use Rattle.uca_books.proofs.laws.worked_books.Goals as goal

pub returns : goal.returns
returns c = worked
